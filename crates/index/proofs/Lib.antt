-- items with keys: counting, summing, placing
pub mod Counting
pub mod Summing
pub mod Placing
-- counting and placing as work with one item after the other
pub mod Works
-- the items of the lines of an area: which, how many, those of one entry, and a scan over them
pub mod Entries
pub mod Sizes
pub mod OneEntry
pub mod Scans
-- beginnings and items in one slice
pub mod Lent
-- a workspace that is erased
pub mod Parts
-- the groups in the items
pub mod Grouped
-- the heads whose rules have a literal
pub mod Readers
-- the group of a key
pub mod Lookup
