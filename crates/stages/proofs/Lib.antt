-- the assignments of the closed reading
pub mod Assignments
-- the next low ends
pub mod Notes
pub mod Taking
-- the high ends of a support
pub mod Lowering
pub mod Following
-- before the first round
pub mod Beginning
-- the support of an assignment, and the next one
pub mod PageStages
pub mod Supporting
pub mod Freeing
pub mod Advancing
-- the loop over the rounds
pub mod Counting
