-- What the proofs of several functions use.
-- the numbers of lines and pages
pub mod Numbers
-- texts of lines and pages
pub mod Texts
