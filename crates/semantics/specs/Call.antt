-- Document 01: the calls of evaluate, drive, value and line held, and what each answers and leaves of a state. Assumes nothing.
use Rattle.std.specs.Prelude.{Bool, true, false, not, cond, List, [], ◌∷◌, ℕ, ◌+◌, leb}
use Rattle.std.proofs.Math.Option.{Option, none, some}
use Rattle.fixpoint.specs.Interval.{Interval}
use Rattle.semantics.specs.Page.{Page}
use Rattle.semantics.specs.Table.{member, interval_of}
use Rattle.semantics.specs.Worklist.{Worklist, changes, evaluated, holder, Status, status, driven}

pub data Call : Type 0 where
  evaluate : (condition : ℕ) → Call
  drive : (allowance : ℕ) → Call
  value : (condition : ℕ) → Call
  line_held : (condition : ℕ) → Call

-- a refusal's number; changed or unchanged, with the line that holds the low end; the count taken, the line of the last evaluation, and
-- `rest` or `spent`; the interval, and whether the run is at rest; the line
pub data Answer : Type 0 where
  refused : ℕ → Answer
  unchanged : (line : ℕ) → Answer
  changed : (line : ℕ) → Answer
  drove : (taken line : ℕ) → Status → Answer
  valued : Interval → Status → Answer
  held_by : (line : ℕ) → Answer

-- "It comes exactly when its cause holds and no cause before it in the list does": the number of the first cause that holds
pub data Cause : Type 0 where
  cause : Bool → ℕ → Cause

abbrev pub first_of : List Cause → Option ℕ
first_of [] = none
first_of (cause true k ∷ cs) = some k
first_of (cause false k ∷ cs) = first_of cs

pub record Outcome : Type 0 where
  pub answer : Answer
  pub state : Worklist

-- a refusal leaves the state as it is; "with no cause the call does its work"
abbrev pub unless : Option ℕ → Worklist → Outcome → Outcome
unless (some k) b o = record { answer = refused k; state = b }
unless none b o = o

-- Where m is the set of the reached conditions. Value, and the line held: 15 the condition is C or more, 17 it is not reached.
abbrev pub value_causes : Page → List Bool → ℕ → List Cause
value_causes page m c = cause (leb page.conditions c) 15 ∷ cause (not (member m c)) 17 ∷ []

-- Evaluate: 15, then 16 it is not waiting.
unfoldable pub outcome : Page → List Bool → Worklist → Call → Outcome
outcome page m b (evaluate c) =
    unless (first_of (cause (leb page.conditions c) 15 ∷ cause (not (member b.waiting c)) 16 ∷ [])) b
    (record { answer = cond (changes page b c) changed unchanged (holder page b c); state = evaluated page m b c })
outcome page m b (drive k) =
    let d = driven page m k b in
    record { answer = drove d.taken d.line (status d.state); state = d.state }
outcome page m b (value c) =
    unless (first_of (value_causes page m c)) b (record { answer = valued (interval_of b.intervals c) (status b); state = b })
outcome page m b (line_held c) =
    unless (first_of (value_causes page m c)) b (record { answer = held_by (holder page b c); state = b })

-- the evaluations that an answer tells of: one for each accepted evaluate, and the counts that drives return
abbrev pub taken_by : Answer → ℕ
taken_by (refused k) = 0
taken_by (unchanged l) = 1
taken_by (changed l) = 1
taken_by (drove k l s) = k
taken_by (valued p s) = 0
taken_by (held_by l) = 0

unfoldable pub taken : List Answer → ℕ
taken [] = 0
taken (a ∷ more) = taken_by a + taken more
