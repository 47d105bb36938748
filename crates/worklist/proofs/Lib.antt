-- soundness of a run area
pub mod Soundness
-- the dependants of a condition
pub mod Stores
pub mod Marking
-- the set of those that wait
pub mod Matching
-- the set, a word at a time
pub mod Digits
-- heads woken in a loop
pub mod Waking
-- dependants woken
pub mod Dependants
-- an evaluation
pub mod Evaluation
