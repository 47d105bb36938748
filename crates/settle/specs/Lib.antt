-- the two ends of a body value, and what each reads
pub mod Ends
-- the scratch, and what the steps of a half leave in it
pub mod Scratch
-- the figures of a page at an end
pub mod Figures
-- the conditions that wait
pub mod Waiting
