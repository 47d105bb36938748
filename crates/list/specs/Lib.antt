pub mod Causes
pub mod Codes
pub mod Lines
pub mod Checks
pub mod Answers
