-- what an end of a body value reads
pub mod EndReads
-- one end of every condition, the other end fixed
pub mod Halves
-- the scratch, and a store of an end
pub mod Scratch
-- one line, raised
pub mod Raising
-- lines looked at, and an end of every condition settled
pub mod Looking
pub mod Settling
-- those that wait, and an end settled over an index
pub mod Members
pub mod Waking
pub mod Draining
