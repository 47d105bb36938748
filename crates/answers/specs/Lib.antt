-- what the functions that write the output leave
pub mod Printing
