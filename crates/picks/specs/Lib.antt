-- What the contracts of `picks` cite besides the definitions of `semantics`.
-- the book of a run in local memory
pub mod Book
-- the figures held
pub mod Figures
-- the answer of the check
pub mod Answer
