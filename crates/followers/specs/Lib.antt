-- the sets of the passes
pub mod Rows
-- the answer of the call
pub mod Answers
