-- the conditions sought
pub mod Sought
-- a loop over the conditions that stores an entry for each one sought
pub mod Storing
-- the sweep over the lines
pub mod Sweeping
-- what the entries stand for in the end
pub mod Closing
