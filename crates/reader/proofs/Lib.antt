-- the lines at a place of a text
pub mod LinePlaces
-- the ranges of a line
pub mod Ranges
-- a result whose error is mapped
pub mod Mapped
-- the first line, and the lines after it
pub mod Heads
pub mod Passes
-- what the second pass writes
pub mod KnownForms
pub mod Writes
pub mod LiteralCodes
pub mod Entries
-- the text, and what reading it comes to
pub mod Texts
pub mod Results
-- showing a line
pub mod Shows
