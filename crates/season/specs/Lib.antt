-- What the contracts of `season` cite besides the definitions of `semantics`.
-- the answer in document 02's words
pub mod Answer
-- sums of some of the answers
pub mod Sums
