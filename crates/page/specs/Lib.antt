-- What the contracts of `page` cite besides the definitions of `semantics`.
-- the areas that the functions work on
pub mod Solvable
-- a scan over the lines
pub mod Lines
-- where the lines stand
pub mod Places
-- the body value, step by step
pub mod Graded
-- the check of one entry
pub mod Checks
