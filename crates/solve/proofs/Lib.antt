-- which lines are Q lines
pub mod Queries
-- the scan that notes their conditions
pub mod Noting
-- both readings of them
pub mod Solving
