-- a round: the high ends, then the floor
pub mod Turns
pub mod Rounding
-- where a half starts
pub mod AllWaiting
pub mod Starting
-- the floor
pub mod Falling
pub mod Flooring
-- whether a round was the last
pub mod Stale
