-- the high ends that a table of low ends stands for
pub mod Mirrors
-- stores into a table
pub mod Stores
-- an op over both ends of literals
pub mod Both
-- both ends of a rule
pub mod Rules
