-- the five ops and the weight
pub mod Ops
-- T is local, monotone, bounded and agreeing; both readings exist and are unique
pub mod Relation
pub mod Readings
-- sound areas are exactly the areas of proper pages
pub mod Proper
pub mod Soundness
pub mod RoundTrip
pub mod ExactAreas
pub mod UsedLength
-- the text of a page
pub mod TestLists
pub mod FieldRanges
pub mod Repeats
pub mod ReadLines
pub mod ReadProper
-- what is read is what was written
pub mod TextParts
pub mod TextNumbers
pub mod TextForms
pub mod ReadPages
pub mod WrittenPages
-- the computed closure is what is reached
pub mod Table
pub mod Closure
-- the count of rounds: it exists, there is one, and it is at most R × top
pub mod RoundsReached
pub mod RoundCounts
-- the plain reading covers the exact figures
pub mod Fractions
pub mod Cover
-- worked rows: the starred ones of document 01, and our own on areas and on texts
pub mod Sweeps
pub mod Computed
pub mod Same
pub mod Rows
pub mod Bench
pub mod RoundRows
pub mod RoundBench
pub mod AreaRows
pub mod AreaBench
pub mod TextRows
pub mod TextBench
-- fractions that meet the covering rule's hypothesis
pub mod CoverExample
-- what operations keep
pub mod Keeps
-- the closed reading as an operation
pub mod ClosedCalls
-- what the program `attach` prints
pub mod Outputs
pub mod OutputRow
-- demand 3
pub mod Invariant
pub mod Areas
pub mod Demand
-- a drive that is allowed enough, from any list of queries
pub mod PlainRuns
-- evaluations on run areas
pub mod Steps
-- the operations, cause by cause
pub mod Operations
-- workspaces
pub mod Workspaces
pub mod Drives
-- which line holds the low end
pub mod Holding
-- no interval widens
pub mod Narrowing
-- ticket 3: walks over any two relations, the layers of a page, and the check's one outcome
pub mod Walks
pub mod WalkRounds
pub mod Layers
pub mod LayersCheck
-- layers by raising, pass by pass
pub mod Raising
pub mod RaisedTables
-- a crisp page with layers has exact closed answers, and what that needs
pub mod CrispPages
pub mod Exactness
pub mod ExactnessNeeds
pub mod LayersRows
pub mod LayersBench
-- ticket 8: lists of trials, the pages that they change, and what is printed for them
pub mod TrialLists
pub mod TrialPages
pub mod Trials
pub mod TrialCuts
pub mod TrialRows
-- ticket 9: the check of picks
pub mod Picks
pub mod PicksRows
pub mod PicksBench
-- ticket 11: what the split of a turn gives, the parts of the shared area, a turn, and demand 3 for one stall's own part
pub mod StallsSplit
pub mod StallsParts
pub mod StallsTurn
pub mod StallsDemand
pub mod StallsRows
pub mod StallsBench
-- ticket 12: the followers of a condition, and the call's one answer
pub mod Followers
pub mod FollowersRows
pub mod FollowersBench
-- ticket 13: the list of all small pages
pub mod Listing
pub mod SmallPages
pub mod SmallRows
-- ticket 14: a season's figures
pub mod Season
pub mod SeasonRows
