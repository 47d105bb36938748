-- binary digits
pub mod Bits
-- sets of conditions as bits
pub mod Sets
-- the ones of words
pub mod Ones
-- one is taken out of a set
pub mod Members
