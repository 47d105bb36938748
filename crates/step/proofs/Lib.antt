-- an evaluation and what is beside the area
pub mod Stepping
-- which line an evaluation tells
pub mod Telling
