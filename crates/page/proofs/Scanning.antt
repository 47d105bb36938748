-- A scan over the lines of a sound page area, in the code's own terms: where it stands, the entry there, and the lines still to come.
-- Assumes nothing.
use mathlib.Core.Path.{◌≡◌, sym, ◌∙◌, ap}
use mathlib.Core.Bool.{true}
use mathlib.Core.List.{List, [], ◌∷◌}
use Prim.Native.Nat.{ℕ, suc, ◌+◌, ◌-◌, ◌≤◌, ◌<◌}
use native.Mathlib.Omega.{arith}
use lib.ListN.{length, get_or, drop}
use lib.Seq.{drop-drop}
use borrow.Author.Tests.{leb-true}
use Rattle.semantics.specs.Page.{Line}
use Rattle.semantics.specs.Area.{kind, span_as, span, line_at, lines_of, page_of, every, line_tests, lines_ok, first_line, top_of, conditions_of, count_of, used_of}
use Rattle.semantics.proofs.Soundness.{both_true}
use Rattle.page.specs.Graded.{SoundEntry}
use Rattle.page.specs.Lines.{step_at, EntryIn, Next, Scanning}
use Rattle.page.proofs.Scan.{span_at, entry_fits, entry_four, entry_in, lines_behind, at_suc}
use Rattle.page.specs.Solvable.{solvable}
use Rattle.page.proofs.Solvable.{solvable_parts}

module _ (a : List ℕ) where
  -- the lines from place `at` on, when k lines are passed
  abbrev pub lines_left : ℕ → ℕ → List Line
  lines_left at k = lines_of (count_of a - k) (drop at a)

  pub scanning_begun : first_line a ≤ used_of a → used_of a ≤ length a
      → lines_ok (top_of a) (conditions_of a) (count_of a) (used_of a - first_line a) (drop (first_line a) a) ≡ true → Scanning a (first_line a) 0
  scanning_begun f u e =
      let z : count_of a - 0 ≡ count_of a = omega arith in
      record { in_count = omega arith; in_used = f; in_area = u; entries = rw z e }

  pub scanning_first : solvable a ≡ true → Scanning a (first_line a) 0
  scanning_first e = let s = solvable_parts a e in scanning_begun (leb-true (first_line a) (used_of a) s.head.1.0) (leb-true (used_of a) (length a) s.head.1.1.0) s.lines

  pub lines_first : lines_left (first_line a) 0 ≡ (page_of a).lines
  unfolding page_of
  lines_first = let z : count_of a - 0 ≡ count_of a = omega arith in rw z

  -- the lines still to come are the one here and those behind its entry, whatever passes
  pub lines_step : (at : ℕ) {k : ℕ} → k < count_of a → lines_left at k ≡ line_at (drop at a) ∷ lines_left (at + step_at a at) (k + 1)
  unfolding lines_of
  lines_step at {k} l =
      let e : count_of a - k ≡ suc (count_of a - (k + 1)) = omega arith in
      ap (λ (m : ℕ). lines_of m (drop at a)) e
      ∙ ap (λ (q : List ℕ). line_at (drop at a) ∷ lines_of (count_of a - (k + 1)) q)
      (drop-drop (span (drop at a)) at a ∙ ap (λ (j : ℕ). drop (at + j) a) (span_at (top_of a) (conditions_of a) (used_of a - at) a at))

  module _ {at k : ℕ} (s : Scanning a at k) (l : k < count_of a) where
    -- the entry at `at` passes its tests
    pub entry_ok : every (line_tests (top_of a) (conditions_of a) (used_of a - at) (drop at a)) ≡ true
    unfolding lines_ok
    entry_ok =
        (both_true (every (line_tests (top_of a) (conditions_of a) (used_of a - at) (drop at a))) _
        (sym (at_suc (top_of a) (conditions_of a) (used_of a - at) (count_of a - k) a at (omega arith) (λ (m : ℕ). lines_ok (top_of a) (conditions_of a) m (used_of a - at) (drop at a))) ∙ s.entries)).0

    -- how many numbers it takes
    abbrev pub step : ℕ
    step = span_as (kind (get_or a (at + 1) 0)) (get_or a (at + 3) 0)

    -- it lies in the area: what a scan requires to move on
    pub entry_here : EntryIn a at
    entry_here = entry_in (top_of a) (conditions_of a) (used_of a - at) a at (omega (arith, s.in_used, s.in_area)) entry_ok

    pub room : at + 4 ≤ length a
    room = entry_here.four

    -- what a function over one entry requires
    pub entry_sound : SoundEntry (top_of a) (conditions_of a) (used_of a - at) a at
    entry_sound =
        record { fits = omega (arith, s.in_used, s.in_area); four = entry_four (top_of a) (conditions_of a) (used_of a - at) a at entry_ok; tests = entry_ok }

    -- the lines still to come are this one and those behind it
    pub lines_on : lines_left at k ≡ line_at (drop at a) ∷ lines_left (at + step) (k + 1)
    lines_on = lines_step at l

    pub scanning_next : Scanning a (at + step) (k + 1)
    scanning_next =
        let f : step ≤ used_of a - at = entry_fits (top_of a) (conditions_of a) (used_of a - at) a at entry_ok in
        record {
          in_count = omega arith;
          in_used = omega (arith, s.in_used);
          in_area = s.in_area;
          entries = sym (lines_behind (top_of a) (conditions_of a) (used_of a) (count_of a) k a at l s.in_used entry_ok) ∙ s.entries;
        }

    -- the same where the scan moved to
    module _ {at' k' : ℕ} (m : Next a at k at' k') where
      pub scanning_moved : Scanning a at' k'
      scanning_moved = rw (m.place, m.count) scanning_next

      pub lines_moved : lines_left at k ≡ line_at (drop at a) ∷ lines_left at' k'
      lines_moved = rw (m.place, m.count) lines_on

  -- at the end none is left
  pub lines_none : (at k : ℕ) → count_of a ≤ k → lines_left at k ≡ []
  unfolding lines_of
  lines_none at k l = let e : count_of a - k ≡ 0 = omega arith in ap (λ (m : ℕ). lines_of m (drop at a)) e
