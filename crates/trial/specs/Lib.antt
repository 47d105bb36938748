-- the parts of the output
pub mod Parts
