-- signed codes, read back from their bits
pub mod Signs
