-- The numbers of the refusals, as the operations state them. Assumes nothing.
use Rattle.std.specs.Prelude.{ℕ}
use Rattle.refusal.specs.declared.Refusal.{Refusal}
use Rattle.refusal.specs.declared.Refusal.TheVariants.{PageNotSound, QueryCount, QueryOutOfRange, RunShort, RunNotSound, ConditionOutOfRange, NotWaiting, NotReached, ScratchShort, AnswersShort, LayersShort, SharedShort}

-- 10 the page area is not sound; 11 fewer than 1 or more than 16 queries; 12 a query is C or more; 13 the run area is too short; 14 it is too short
-- or not sound; 15 the condition is C or more; 16 it is not waiting; 17 it is not reached; 18 the scratch is too short; 19 the answers are; 31 the
-- slice for the layers is; 60 the area of two stalls is
abbrev pub number_of : Refusal → ℕ
number_of PageNotSound = 10
number_of QueryCount = 11
number_of QueryOutOfRange = 12
number_of RunShort = 13
number_of RunNotSound = 14
number_of ConditionOutOfRange = 15
number_of NotWaiting = 16
number_of NotReached = 17
number_of ScratchShort = 18
number_of AnswersShort = 19
number_of LayersShort = 31
number_of SharedShort = 60
