-- items written at a place
pub mod Wrote
-- what is written to a text
pub mod Texts
