-- soundness, line by line
pub mod Scan
pub mod Checking
-- sound areas are solvable, and what solvable ones hold
pub mod Solvable
-- the head numbers of a solvable area
pub mod Head
-- a scan over the lines of a sound area
pub mod Scanning
-- a step of the scan
pub mod Steps
-- which condition a line names
pub mod Naming
-- one entry, field by field
pub mod Entries
-- the lines by number
pub mod LineNumbers
-- the D lines and the D numbers
pub mod Defaults
-- a test of all numbers below one
pub mod Searching
-- the parts of soundness, put together
pub mod Sounding
