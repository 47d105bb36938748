-- What the contracts of `layers` cite besides the definitions of `semantics`.
-- layers by raising
pub mod Raising
-- the search for loops
pub mod Levels
-- the answer of the check
pub mod Verdict
