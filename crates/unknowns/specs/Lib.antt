-- What the contracts of `unknowns` cite besides the definitions of the crates below.
pub mod NextHighs
