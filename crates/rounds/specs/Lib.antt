-- the rounds
pub mod Round
