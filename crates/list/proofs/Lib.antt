-- texts that end with byte 10
pub mod EndedTexts
-- a line, by what the parser has read of it, and one that is known to have the form
pub mod Forms
pub mod KnownForms
-- what is wrong with a line, and with the lines one after the other
pub mod Faults
pub mod Passes
-- the list as a whole
pub mod Parts
-- a list that is not bad, the numbers of its lines, and how they are written
pub mod GoodLines
pub mod Codes
pub mod Writes
-- what reading a list comes to
pub mod Results
