-- the lines of a list as numbers, and its first trial
pub mod Listing
-- the end of the first trial
pub mod Ending
-- the beginning of the output
pub mod Beginning
-- the page that a trial changes
pub mod Changing
-- the parts are the output
pub mod Whole
