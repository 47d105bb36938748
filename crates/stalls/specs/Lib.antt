-- the answers in document 02's words, and a drive of one stall's part
pub mod Answers
-- the tests before an operation
pub mod Checks
