-- what a division requires
pub mod Dividing
-- an op over the numbers of literals, and a rule's end
pub mod Folds
pub mod RuleEnds
-- what a line adds, and the body value as the largest over the lines
pub mod Lines
pub mod BodyEnds
-- what a condition without lines has
pub mod Defaults
-- tables of one end of every literal
pub mod Tables
