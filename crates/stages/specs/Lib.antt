-- what the count of rounds asks and answers
pub mod Counted
-- the tables, and what each step leaves in them
pub mod Steps
-- what the tables hold in a round
pub mod Stages
