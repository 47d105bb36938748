-- What the contracts of `change` cite besides the definitions of `semantics`.
-- the lines of a trial
pub mod Trial
-- lines that are written
pub mod Written
