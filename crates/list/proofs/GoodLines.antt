-- What it says of a list that none of its lines is bad. Assumes nothing.
use mathlib.Core.Path.{◌≡◌, refl}
use mathlib.Core.Bool.{true}
use mathlib.Core.List.{List, [], ◌∷◌}
use mathlib.Core.Option.{Option, none, some}
use Prim.Native.Nat.{ℕ, suc, ◌≤◌, ◌<◌}
use borrow.Author.Tests.{not-false, leb-false, ltb-false}
use Rattle.semantics.specs.Call.{first_of}
use Rattle.semantics.specs.Text.{fields_of}
use Rattle.semantics.specs.ReadPage.{placed, told_at}
use Rattle.semantics.specs.Trials.{TrialLine, is_trial, trial_in, line_end, trial_causes, bad_trial, trial_lines_in}
use Rattle.semantics.proofs.FieldRanges.{some_none, else_none}
use Rattle.semantics.proofs.Invariant.{no_cause_holds}
use Rattle.list.specs.Checks.{AllTrials}

-- nothing is told where no cause holds
told_none : (k : ℕ) (o : Option ℕ) → told_at k (placed 0 o) ≡ none → o ≡ none
told_none k none e = refl
told_none k (some number) e = some_none e

-- a line in range, behind a line of the trial `before`
pub record InRange (top n before : ℕ) (t : TrialLine) : Type 0 where
  pub condition : t.condition < n
  pub ends : t.low ≤ t.high
  pub high : t.high ≤ top
  pub after : before ≤ t.trial

-- all lines, the first of them behind a line of the trial `before`
abbrev pub AllInRange : (top n before : ℕ) → List TrialLine → Type 0
AllInRange top n before [] = Unit {0}
AllInRange top n before (t ∷ ts) = InRange top n before t × AllInRange top n t.trial ts

-- a line that is not bad, and those behind it
record GoodLine (top n size k at before : ℕ) (l : List ℕ) (ls : List (List ℕ)) : Type 0 where
  form : is_trial (fields_of l) ≡ true
  range : InRange top n before (trial_in (fields_of l))
  others : bad_trial top n size (suc k) (line_end at l) (trial_in (fields_of l)).trial ls ≡ none

good_line : (top n size k at before : ℕ) (l : List ℕ) (ls : List (List ℕ)) → bad_trial top n size k at before (l ∷ ls) ≡ none → GoodLine top n size k at before l ls
unfolding bad_trial
good_line top n size k at before l ls e =
    let t = trial_in (fields_of l) in
    let cs = trial_causes top n size k at before l in
    let w = else_none (told_at k (placed 0 (first_of cs))) (bad_trial top n size (suc k) (line_end at l) t.trial ls) e in
    let c = no_cause_holds cs (told_none k (first_of cs) w.0) in
    let r = c.1.1.1.1 in
    record {
      form = not-false (is_trial (fields_of l)) c.0;
      range = record {
        condition = leb-false n t.condition r.0;
        ends = ltb-false t.high t.low r.1.1.1.0;
        high = ltb-false top t.high r.1.1.0;
        after = ltb-false t.trial before r.1.1.1.1.0;
      };
      others = w.1;
    }

-- every line has the form
pub all_trials : (top n size k at before : ℕ) (ls : List (List ℕ)) → bad_trial top n size k at before ls ≡ none → AllTrials ls
all_trials top n size k at before [] e = tt
all_trials top n size k at before (l ∷ ls) e =
    let g = good_line top n size k at before l ls e in
    (g.form, all_trials top n size (suc k) (line_end at l) (trial_in (fields_of l)).trial ls g.others)

-- and is in range
pub all_in_range : (top n size k at before : ℕ) (ls : List (List ℕ)) → bad_trial top n size k at before ls ≡ none → AllInRange top n before (trial_lines_in ls)
unfolding trial_lines_in
all_in_range top n size k at before [] e = tt
all_in_range top n size k at before (l ∷ ls) e =
    let g = good_line top n size k at before l ls e in
    (g.range, all_in_range top n size (suc k) (line_end at l) (trial_in (fields_of l)).trial ls g.others)
