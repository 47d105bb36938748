pub mod Causes
pub mod Checks
pub mod Entries
pub mod Shown
pub mod Answers
