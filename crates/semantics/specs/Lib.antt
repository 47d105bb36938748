-- The definitions of document 01, in the order of its sections. Each comment names the paper's term or sentence.
-- "Grades and intervals", and the op letters
pub mod Grade
-- "The page", without its text, and the body value T
pub mod Page
pub mod Body
-- which line holds the low end of T
pub mod Holding
-- lists that stand for sets and assignments
pub mod Table
-- "The two readings"; reached, R and E
pub mod Reading
-- document 02, ticket 10: the count of rounds of the closed reading
pub mod Rounds
-- ticket 2: fractions, the exact body value, and that the plain reading covers it
pub mod Exact
-- "Areas"
pub mod Area
pub mod RunArea
-- "The page", its text, and what reading it answers
pub mod Text
pub mod ReadPage
-- "The book of a run", and what each call answers
pub mod Worklist
pub mod Call
-- "Operations and their refusals", on areas
pub mod Operation
-- demand 3, one statement
pub mod Demand
-- "The program `attach`": what it prints
pub mod Fields
pub mod Output
-- document 02, ticket 3: loops through an absence
pub mod Layers
-- document 02, ticket 8: trying facts
pub mod Trials
-- document 02, ticket 9: checking the picks of a simulator
pub mod Picks
-- document 02, ticket 11: two stalls on one page, and demand 3 for one stall's own part
pub mod Stalls
pub mod StallsDemand
-- document 02, ticket 12: how many conditions follow one
pub mod Followers
-- document 02, ticket 13: all small pages, and the text that says a page
pub mod Written
pub mod SmallPages
-- document 02, ticket 14: a season's figures
pub mod Season
