-- what a Q line asks
pub mod Asked
-- the queries of a page, and low and high of each in both readings
pub mod Figures
