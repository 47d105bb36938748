-- sets of conditions as words
pub mod Words
-- which conditions of a set are told
pub mod Sets
