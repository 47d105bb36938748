-- The scan that wakes the dependants of a condition, in the code's own terms. Assumes nothing.
use mathlib.Core.Path.{◌≡◌, sym, ◌∙◌, ap}
use mathlib.Core.Bool.{Bool, true, ◌&&◌, and-false, and-or_distrib_left}
use mathlib.Core.List.{List}
use Prim.Native.Nat.{ℕ, ◌<◌, ◌≤◌}
use lib.Dec.{eqb}
use lib.ListN.{get_or, drop}
use Rattle.semantics.specs.Area.{first_line, page_of, line_at, count_of}
use Rattle.semantics.specs.Page.{Line, names, lines_name}
use Rattle.bits.specs.Words.{has}
use Rattle.page.specs.Lines.{Next, line_names}
use Rattle.page.proofs.Naming.{lines_name_lem}
use Rattle.page.specs.Lines.{Scanning}
use Rattle.page.proofs.Scanning.{lines_left, scanning_first, lines_first, scanning_moved, lines_moved, lines_none}
use Rattle.reach.specs.Sets.{Joins}
use Rattle.reach.proofs.Inserting.{Joining, joining_first, joining_next, joining_last}
use Rattle.page.specs.Solvable.{solvable}

-- the scan stands at `at`, behind k lines
module _ (a : List ℕ) (c : ℕ) (reached waiting₀ : List ℕ) where
  -- the reached heads of the lines still to come that name c
  abbrev ahead : ℕ → ℕ → ℕ → Bool
  ahead at k h = has reached h && lines_name (lines_left a at k) h c

  pub record Waking (waiting : List ℕ) (at k : ℕ) : Type 0 where
    pub scan : Scanning a at k
    pub joining : Joining (λ h. has reached h && names (page_of a) h c) (ahead at k) (has waiting₀) (has waiting)

  pub waking_first : solvable a ≡ true → {at k : ℕ} → (at ≡ first_line a) × (k ≡ 0) → Waking waiting₀ at k
  waking_first ok {at} {k} z =
      rw (z.0, z.1)
      (record {
        scan = scanning_first a ok;
        joining = joining_first (λ h. ap (λ (ls : List Line). has reached h && lines_name ls h c) (sym (lines_first a)));
      })

  pub waking_next : {waiting waiting' : List ℕ} {at k at' k' : ℕ} → Waking waiting at k → k < count_of a → Next a at k at' k'
      → Joins (λ h. has reached h && (eqb (get_or a at 0) h && line_names (line_at (drop at a)) c)) (has waiting) (has waiting') → Waking waiting' at' k'
  waking_next {at = at} {at' = at'} {k' = k'} s l e j =
      record {
        scan = scanning_moved a s.scan l e;
        joining = joining_next s.joining j
            (λ h.
            ap (λ (ls : List Line). has reached h && lines_name ls h c) (lines_moved a s.scan l e)
            ∙ ap (λ (t : Bool). has reached h && t) (lines_name_lem a at h c (lines_left a at' k'))
            ∙ and-or_distrib_left (has reached h) (eqb (get_or a at 0) h && line_names (line_at (drop at a)) c) (lines_name (lines_left a at' k') h c));
      }

  pub waking_last : {waiting : List ℕ} {at k : ℕ} → Waking waiting at k → count_of a ≤ k → Joins (λ h. has reached h && names (page_of a) h c) (has waiting₀) (has waiting)
  unfolding lines_name
  waking_last {at = at} {k = k} s l = joining_last s.joining (λ h. ap (λ (ls : List Line). has reached h && lines_name ls h c) (lines_none a at k l) ∙ and-false (has reached h))
