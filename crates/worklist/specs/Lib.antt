-- what stands in the cells
pub mod Cells
pub mod Marks
pub mod Evaluation
-- the conditions that wait as a set
pub mod Waiting
-- the heads of a part, woken
pub mod Woken
