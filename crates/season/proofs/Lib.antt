-- What the proofs of several functions use.
-- signed differences
pub mod Signs
-- the pairs of a list, by place
pub mod Pairs
-- sums, one answer at a time
pub mod Growing
-- the outcome
pub mod Answers
