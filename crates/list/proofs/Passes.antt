-- The lines of an ended text, one after the other. Assumes nothing.
use mathlib.Core.Path.{◌≡◌, ◌∙◌, ap}
use mathlib.Core.List.{List, [], ◌∷◌, ◌++◌}
use mathlib.Core.Option.{some}
use Prim.Native.Nat.{ℕ, suc, ◌+◌, ◌-◌, ◌≤◌, ◌<◌}
use native.Mathlib.Omega.{arith}
use native.Mathlib.Numerals.{add-one}
use lib.ListN.{length, drop, drop_of_length-le}
use Rattle.semantics.specs.Text.{text_lines, fields_of}
use Rattle.semantics.specs.Trials.{trial_in, bad_trial}
use Rattle.fields.specs.Cursor.{fields_at, lines_after}
use Rattle.reader.proofs.LinePlaces.{line_here}
use Rattle.list.specs.Lines.{line_at}
use Rattle.list.specs.Checks.{Ended, fault_in, LineGood, refusal, LinesGood}
use Rattle.list.proofs.EndedTexts.{line_inside}
use Rattle.list.proofs.Faults.{late_line, bad_line_lem, passed_line}

-- The lines have been checked as far as the place `at`, where line k begins, and `before` is the trial of the line before it.
pub record Checking (s : List ℕ) (top n at k before : ℕ) : Type 0 where
  pub bad : (size : ℕ) (ls : List (List ℕ)) → length s ≤ size → bad_trial top n size 1 0 0 (text_lines s ++ ls) ≡ bad_trial top n size k at before (text_lines (drop at s) ++ ls)
  pub count : 1 + length (text_lines s) ≡ k + length (text_lines (drop at s))
  pub least : 1 ≤ k
  pub most : k ≤ 1025
  pub near : at ≤ 65535
  pub inside : at ≤ length s

module _ (s : List ℕ) (top n : ℕ) {at k before : ℕ} (w : Checking s top n at k before) where
  pub checking_done : length s ≤ at → LinesGood s top n (k - 1)
  unfolding text_lines
  checking_done h =
      let e : text_lines (drop at s) ≡ [] = rw (drop_of_length-le s h) in
      let i : k ≡ k - 1 + 1 = omega (arith, w.least) in
      let j : at ≡ length s = omega (arith, w.inside) in
      record {
        before = before;
        rest = λ size ls m.
            w.bad size ls m
            ∙ ap (λ (ms : List (List ℕ)). bad_trial top n size k at before (ms ++ ls)) e
            ∙ ap (λ (x : ℕ). bad_trial top n size x at before ls) i
            ∙ ap (λ (x : ℕ). bad_trial top n size (k - 1 + 1) x before ls) j;
        count = omega (arith, w.count, w.least, ap length e);
        few = omega (arith, w.most);
      }

  module _ (ended : Ended s) (h : at < length s) where
    here : (size : ℕ) (ls : List (List ℕ)) → length s ≤ size → bad_trial top n size 1 0 0 (text_lines s ++ ls) ≡ bad_trial top n size k at before (line_at s at ∷ (lines_after (drop at s) ++ ls))
    here size ls m = w.bad size ls m ∙ ap (λ (ms : List (List ℕ)). bad_trial top n size k at before (ms ++ ls)) (line_here s at h)

    pub refused_late : k ≡ 1025 → (size : ℕ) (ls : List (List ℕ)) → length s ≤ size → bad_trial top n size 1 0 0 (text_lines s ++ ls) ≡ some (refusal 40 k)
    refused_late e size ls m = here size ls m ∙ late_line top n size k at before (line_at s at) (lines_after (drop at s) ++ ls) e

    module _ (e : k ≡ 1025 → ⊥) where
      pub refused_line : {number : ℕ} → fault_in s at before top n ≡ some number
          → (size : ℕ) (ls : List (List ℕ)) → length s ≤ size → bad_trial top n size 1 0 0 (text_lines s ++ ls) ≡ some (refusal number k)
      refused_line f size ls m = here size ls m ∙ bad_line_lem s at before top n size k e (line_inside s at h ended) m (lines_after (drop at s) ++ ls) f

      says : {trial next : ℕ} → LineGood s at before top n trial next → (trial_in (fields_of (line_at s at))).trial ≡ trial
      unfolding fields_at
      says q = q.is

      pub checking_next : {trial next : ℕ} → LineGood s at before top n trial next → Checking s top n next (k + 1) trial
      checking_next {trial} {next} q =
          record {
            bad = λ size ls m.
                here size ls m
                ∙ passed_line s at before top n size k e (line_inside s at h ended) m (lines_after (drop at s) ++ ls) q.good
                ∙ rw (q.lines, ← q.end, add-one k)
                (ap (λ (x : ℕ). bad_trial top n size (suc k) next x (text_lines (drop next s) ++ ls)) (says q));
            count = w.count ∙ rw (line_here s at h, q.lines) (omega arith);
            least = omega (arith, w.least);
            most = omega (arith, w.most);
            near = q.near;
            inside = q.inside;
          }
