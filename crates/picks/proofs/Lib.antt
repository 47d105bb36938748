-- waking the dependants of a condition
pub mod Waking
-- an evaluation
pub mod Evaluating
-- figures compared
pub mod Comparing
-- the picks in turn, and the answer
pub mod Judging
