-- The soundness scan over the lines: where it stands, and that the entries still to come decide. Assumes nothing.
use mathlib.Core.Path.{◌≡◌, sym, ◌∙◌}
use mathlib.Core.Bool.{Bool, true, false, ◌&&◌}
use mathlib.Core.List.{List}
use Prim.Native.Nat.{ℕ, ◌+◌, ◌*◌, ◌-◌, ◌≤◌, ◌<◌}
use native.Mathlib.Omega.{arith}
use lib.Dec.{eqb, leb}
use lib.ListN.{length, get_or, take, drop}
use borrow.Author.Tests.{leb-true}
use Rattle.semantics.specs.Area.{kind, every, all_under, field_tests, line_tests, lines_ok, first_line}
use Rattle.semantics.proofs.Soundness.{both_true}
use Rattle.page.specs.Lines.{step_at}
use Rattle.page.specs.Checks.{head_ok, rule_ok}
use Rattle.page.proofs.Scan.{all_in, one_out, span_rule, span_short, head_entry, head_in, rule_entry, short_entry, entry_fits, lines_bad, lines_behind, lines_last}

module _ (a : List ℕ) (used count top n : ℕ) where
  -- what the scan is to answer
  abbrev answer : Bool
  answer = lines_ok top n count (used - first_line a) (drop (first_line a) a)

  -- it stands at `at`, behind k entries that passed
  pub record Checking (at k : ℕ) : Type 0 where
    pub in_count : k ≤ count
    pub in_used : at ≤ used
    pub in_area : used ≤ length a
    pub few : n ≤ 512
    pub is : answer ≡ lines_ok top n (count - k) (used - at) (drop at a)

  pub checking_first : used ≤ length a → first_line a ≤ used → n ≤ 512 → {at k : ℕ} → (at ≡ first_line a) × (k ≡ 0) → Checking at k
  checking_first l f h {at} {k} e =
      let z : count - k ≡ count = omega arith in
      record { in_count = omega arith; in_used = omega arith; in_area = l; few = h; is = rw (z, e.0) }

  -- one turn: the entry fails, or the scan moves on
  module _ {at k : ℕ} (s : Checking at k) (l : k < count) where
    abbrev passes : Bool
    passes = every (line_tests top n (used - at) (drop at a))

    fails : passes ≡ false → false ≡ answer
    fails f = sym (s.is ∙ lines_bad top n (used - at) (count - k) a at (omega arith) f)

    moves : passes ≡ true → Checking (at + step_at a at) (k + 1)
    moves ok =
        record {
          in_count = omega arith;
          in_used = omega (arith, s.in_used, entry_fits top n (used - at) a at ok);
          in_area = s.in_area;
          few = s.few;
          is = s.is ∙ lines_behind top n used count k a at l s.in_used ok;
        }

    pub head_bad : head_ok n used a at ≡ false → false ≡ answer
    head_bad f = fails (sym (head_entry top n used a at f))

    module _ (o : head_ok n used a at ≡ true) where
      pub inside : (at + 4 ≤ used) × (get_or a at 0 < n)
      inside = head_in top n used a at o

      -- an entry without literals
      module _ (f : 1 ≤ get_or a (at + 1) 0 → 6 ≤ get_or a (at + 1) 0) {r : Bool}
          (e : r ≡ every (field_tests top n (kind (get_or a (at + 1) 0)) (get_or a (at + 2) 0) (get_or a (at + 3) 0) (take (get_or a (at + 3) 0) (drop (at + 4) a)))) where
        is_short : r ≡ passes
        is_short = short_entry top n used a at inside f e

        pub short_bad : r ≡ false → false ≡ answer
        short_bad g = fails (sym is_short ∙ g)

        pub short_next : r ≡ true → Checking (at + 4) (k + 1)
        short_next t =
            let q : at + step_at a at ≡ at + 4 = omega (arith, span_short (get_or a (at + 1) 0) (get_or a (at + 3) 0) f) in
            rw q at (moves (sym is_short ∙ t))

      -- a rule, and the scan of its literals
      module _ (lo : 1 ≤ get_or a (at + 1) 0) (hi : get_or a (at + 1) 0 ≤ 5) where
        abbrev literals : List ℕ → Bool
        literals = all_under (2 * n)

        whole : (rule_ok top used a at (get_or a (at + 3) 0) && literals (take (get_or a (at + 3) 0) (drop (at + 4) a))) ≡ passes
        whole = rule_entry top n used a at inside lo hi

        pub rule_bad : rule_ok top used a at (get_or a (at + 3) 0) ≡ false → false ≡ answer
        rule_bad f = fails (sym whole ∙ rw f)

        module _ (t : rule_ok top used a at (get_or a (at + 3) 0) ≡ true) where
          pub rule_ends : at + 4 + get_or a (at + 3) 0 ≤ used
          rule_ends = leb-true (at + 4 + get_or a (at + 3) 0) used (both_true (leb (at + 4 + get_or a (at + 3) 0) used) _ t).0

          -- the literals as the code slices them
          abbrev codes : List ℕ
          codes = take (at + 4 + get_or a (at + 3) 0 - (at + 4)) (drop (at + 4) a)

          codes_are : codes ≡ take (get_or a (at + 3) 0) (drop (at + 4) a)
          codes_are = let e : at + 4 + get_or a (at + 3) 0 - (at + 4) ≡ get_or a (at + 3) 0 = omega arith in rw e

          pub literals_bad : (j : ℕ) → j < length codes → 2 * n ≤ get_or codes j 0 → false ≡ answer
          literals_bad j l g = fails (sym whole ∙ rw (t, ← codes_are, one_out (2 * n) codes j l g))

          pub rule_next : ((j : ℕ) → j < length codes → get_or codes j 0 < 2 * n) → Checking (at + 4 + get_or a (at + 3) 0) (k + 1)
          rule_next h =
              let q : at + step_at a at ≡ at + 4 + get_or a (at + 3) 0 = omega (arith, span_rule (get_or a (at + 1) 0) (get_or a (at + 3) 0) lo hi) in
              rw q at (moves (sym whole ∙ rw (t, ← codes_are, all_in (2 * n) codes h)))

  pub checking_last : {at k : ℕ} → Checking at k → count ≤ k → eqb at used ≡ answer
  checking_last {at} {k} s l = sym (s.is ∙ lines_last top n (count - k) a at used s.in_used (omega (arith, s.in_count)))
