-- a printed line, and the Q lines of a page
pub mod PrintedLines
pub mod Printing
-- the answers of a trial
pub mod TrialLines
