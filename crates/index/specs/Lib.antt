-- numbers in groups by a key
pub mod Groups
-- the conditions whose rules have a literal
pub mod Readers
-- the steps of building the groups
pub mod Items
-- work with one item after the other
pub mod Work
-- what is grouped: lines by head, or dependants by literal
pub mod By
-- the parts of an index, and how long it is
pub mod Parts
-- what a look-up gives
pub mod Lookup
