-- sets of conditions as 512 marks
pub mod Marks
-- sets of conditions as words
pub mod Sets
-- the answer of an opening, and the run area that it writes
pub mod Opening
-- what queries are refused for
pub mod Queries
