-- What the proofs of several functions use.
-- what the lines of a trial give a condition
pub mod Giving
-- lines written one after the other
pub mod Lines
-- the page's lines that stay
pub mod Keeping
-- the facts of a trial
pub mod Facts
-- the area of the changed page
pub mod Changed
-- what a caller that lends a part of its list uses
pub mod Parts
