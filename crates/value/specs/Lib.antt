-- What the contracts of `value` cite besides the definitions of `semantics`.
-- the two ends, and one end of every literal
pub mod Table
-- one end of a line's value
pub mod LineEnds
