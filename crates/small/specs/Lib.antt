-- What the contracts of `small` cite besides the definitions of `semantics`.
-- lines and pages by their numbers
pub mod Numbers
-- the answer in document 02's words
pub mod Answer
