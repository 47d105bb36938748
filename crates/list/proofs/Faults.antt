-- What is wrong with a line of a list, and with the lines from it on. Assumes nothing.
use mathlib.Core.Path.{◌≡◌, refl, sym, ◌∙◌, ap}
use mathlib.Core.Bool.{Bool, true, false, not, ◌&&◌}
use mathlib.Core.List.{List, [], ◌∷◌, ◌++◌}
use mathlib.Core.Option.{Option, none, some}
use Prim.Native.Nat.{ℕ, suc, ◌≤◌, ◌<◌}
use native.Mathlib.Omega.{arith}
use lib.Dec.{eqb, ltb, leb}
use lib.ListN.{length, drop}
use borrow.Author.Tests.{eq-eqb, ne_eqb, lt-ltb, le-ltb, le-leb, lt-leb}
use Rattle.semantics.specs.Call.{Cause, cause, first_of}
use Rattle.semantics.specs.Text.{fields_of}
use Rattle.semantics.specs.ReadPage.{or_else}
use Rattle.semantics.specs.Trials.{TrialLine, is_trial, trial_in, line_end, trial_range_causes, trial_causes, bad_trial}
use Rattle.fields.specs.Cursor.{fields_at}
use Rattle.list.specs.declared.parse.Trial.{Trial}
use Rattle.list.specs.Lines.{line_of, line_at, Says}
use Rattle.list.specs.Checks.{range_causes, order_causes, fault_in, LineGood, refusal}

-- one of the causes of 40 holds
second_forty : (t : Bool) (cs : List Cause) → first_of (cause t 40 ∷ cause true 40 ∷ cs) ≡ some 40
second_forty true cs = refl
second_forty false cs = refl

third_forty : (t u : Bool) (cs : List Cause) → first_of (cause t 40 ∷ cause u 40 ∷ cause true 40 ∷ cs) ≡ some 40
third_forty true u cs = refl
third_forty false u cs = second_forty u cs

-- the first of the causes of two lists
first_append : (cs ds : List Cause) → first_of (cs ++ ds) ≡ or_else (first_of cs) (first_of ds)
first_append [] ds = refl
first_append (cause true k ∷ cs) ds = refl
first_append (cause false k ∷ cs) ds = first_append cs ds

-- A line that is not line 1,025, in an ended text.
module _ (s : List ℕ) (at before top n : ℕ) where
  pub no_form_told : is_trial (fields_at (drop at s)) ≡ false → fault_in s at before top n ≡ some 40
  unfolding fault_in fields_at
  no_form_told e = rw e

  module _ {line : Trial} {next : ℕ} (w : Says s at line next) where
    form_here : is_trial (fields_of (line_at s at)) ≡ true
    unfolding fields_at
    form_here = w.form

    line_says : trial_in (fields_of (line_at s at)) ≡ line_of line
    unfolding fields_at
    line_says = w.is

    not_over : line_end at (line_at s at) ≤ length s
    not_over = omega (arith, w.end, w.inside)

    pub far_told : at ≤ 65535 → 65536 ≤ next → fault_in s at before top n ≡ some 40
    unfolding fault_in
    far_told h k =
        let l = line_end at (line_at s at) in
        let m : 65536 ≤ l = omega (arith, w.end) in
        rw (form_here, le-ltb (length s) l not_over, lt-ltb at 65536 (omega arith), le-leb 65536 l m)

    range_told : at ≤ 65535 → next < 65536 → fault_in s at before top n ≡ first_of (trial_range_causes top n before (line_of line))
    unfolding fault_in
    range_told h k =
        let l = line_end at (line_at s at) in
        let m : l < 65536 = omega (arith, w.end) in
        rw (form_here, le-ltb (length s) l not_over, lt-ltb at 65536 (omega arith), lt-leb 65536 l m, line_says)

    -- by what the range and the order tell
    module _ (h : at ≤ 65535) (k : next < 65536) where
      both_told : {o : Option ℕ} → o ≡ first_of (range_causes top n (line_of line)) → fault_in s at before top n ≡ or_else o (first_of (order_causes before line.trial))
      both_told r =
          range_told h k
          ∙ first_append (range_causes top n (line_of line)) (order_causes before line.trial)
          ∙ ap (λ (x : Option ℕ). or_else x (first_of (order_causes before line.trial))) (sym r)

      pub range_first : {x : ℕ} → some x ≡ first_of (range_causes top n (line_of line)) → fault_in s at before top n ≡ some x
      range_first r = both_told r

      module _ (r : none ≡ first_of (range_causes top n (line_of line))) where
        pub order_first : {x : ℕ} → some x ≡ first_of (order_causes before line.trial) → fault_in s at before top n ≡ some x
        order_first o = both_told r ∙ sym o

        pub a_good_line : none ≡ first_of (order_causes before line.trial) → LineGood s at before top n line.trial next
        a_good_line o =
            record {
              good = both_told r ∙ sym o;
              is = ap (λ (t : TrialLine). t.trial) w.is;
              lines = w.lines;
              end = w.end;
              near = omega arith;
              inside = w.inside;
            }

-- The lines from line k of a list of `size` bytes on.
module _ (top n size k at before : ℕ) (l : List ℕ) (ls : List (List ℕ)) where
  told_line : {number : ℕ} → first_of (trial_causes top n size k at before l) ≡ some number → bad_trial top n size k at before (l ∷ ls) ≡ some (refusal number k)
  unfolding bad_trial
  told_line e = rw e

  good_line : first_of (trial_causes top n size k at before l) ≡ none
      → bad_trial top n size k at before (l ∷ ls) ≡ bad_trial top n size (suc k) (line_end at l) (trial_in (fields_of l)).trial ls
  unfolding bad_trial
  good_line e = rw e

  -- the causes behind the first three
  abbrev last_causes : List Cause
  last_causes = cause (ltb at 65536 && leb 65536 (line_end at l)) 40 ∷ trial_range_causes top n before (trial_in (fields_of l))

  pub late_line : k ≡ 1025 → bad_trial top n size k at before (l ∷ ls) ≡ some (refusal 40 k)
  late_line e = told_line (rw (eq-eqb k 1025 e) (third_forty (not (is_trial (fields_of l))) (ltb size (line_end at l)) last_causes))

  pub unended_line : size < line_end at l → bad_trial top n size k at before (l ∷ ls) ≡ some (refusal 40 k)
  unended_line h = told_line (rw (lt-ltb size (line_end at l) h) (second_forty (not (is_trial (fields_of l))) (cause (eqb k 1025) 40 ∷ last_causes)))

-- The line at a place of an ended text, which stands at the front of the list.
module _ (s : List ℕ) (at before top n size k : ℕ) (e : k ≡ 1025 → ⊥) (h : line_end at (line_at s at) ≤ length s) (m : length s ≤ size) (ls : List (List ℕ)) where
  same_causes : first_of (trial_causes top n size k at before (line_at s at)) ≡ fault_in s at before top n
  unfolding fault_in
  same_causes =
      let l = line_end at (line_at s at) in
      rw (le-ltb size l (omega arith), le-ltb (length s) l h, ne_eqb k 1025 e)

  pub bad_line_lem : {number : ℕ} → fault_in s at before top n ≡ some number → bad_trial top n size k at before (line_at s at ∷ ls) ≡ some (refusal number k)
  bad_line_lem f = told_line top n size k at before (line_at s at) ls (same_causes ∙ f)

  pub passed_line : fault_in s at before top n ≡ none
      → bad_trial top n size k at before (line_at s at ∷ ls) ≡ bad_trial top n size (suc k) (line_end at (line_at s at)) (trial_in (fields_of (line_at s at))).trial ls
  passed_line f = good_line top n size k at before (line_at s at) ls (same_causes ∙ f)
