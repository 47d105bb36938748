-- the closed reading in the scratch
pub mod Solving
-- the numbers of the answers
pub mod Answer
