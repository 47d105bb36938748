-- the literals of a line, and a pass over the lines
pub mod Meeting
pub mod Passing
-- the row when a pass adds nothing, and the answer
pub mod Settled
