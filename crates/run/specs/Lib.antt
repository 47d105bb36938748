-- the answers in document 01's words
pub mod Answers
-- the tests before an operation
pub mod Checks
-- the evaluations of a drive
pub mod Steps
