-- the operation
pub mod Answering
