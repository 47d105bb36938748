-- what the C functions return and leave in their out-parameters
pub mod Codes
