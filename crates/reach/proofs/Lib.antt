-- sets as words or as marks: conditions put in, one or several
pub mod Inserting
-- what queries and literals name
pub mod Naming
-- what one condition names
pub mod Visiting
-- a pass over the lines, and what it marks
pub mod Sweeping
-- the passes that use what they have just marked, until it is the closure
pub mod Closing
-- the passes of an opening, and their count
pub mod Passing
-- R and E
pub mod Counting
-- R + top × E fits 32 bits
pub mod Bounds
-- a set of words as marks
pub mod Marking
-- the run area that an opening writes
pub mod Writing
-- the refusals of an opening; 10, 11 and 12 are those of the closed reading too
pub mod Refusals
