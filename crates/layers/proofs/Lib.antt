-- the literals of a rule, and a scan over the lines
pub mod Literals
pub mod Behind
-- layers by raising: one rule
pub mod Asking
-- a pass over the lines, and where the passes end
pub mod Raises
pub mod Settling
-- the search for loops: a look at a part, chains put together, and what each step does
pub mod Looking
pub mod Ways
pub mod Paths
pub mod Beginning
-- the outcome of the check
pub mod Checking
