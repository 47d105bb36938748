-- The parts of the shared area: what is put in a stall's part is found there, and nowhere else. Assumes nothing.
use mathlib.Core.Path.{◌≡◌, refl, sym, ◌∙◌, ap, ap₂}
use mathlib.Core.List.{List, ◌++◌, append_assoc}
use mathlib.Core.Option.{Option, none, some}
use Prim.Native.Nat.{ℕ, ◌+◌, ◌*◌, ◌-◌, ◌≤◌}
use native.Mathlib.Nat.{zero-add}
use native.Mathlib.Omega.{arith}
use lib.ListN.{length, take, drop, length-append, length-drop, take-append-drop}
use lib.Seq.{length-take-le, take_at, drop_at, drop-drop}
use borrow.Author.Tests.{not-false}
use Rattle.semantics.specs.Area.{page_of}
use Rattle.semantics.specs.Call.{Call, Outcome, first_of, outcome}
use Rattle.semantics.specs.Operation.{left_as, run_causes, operation}
use Rattle.semantics.specs.Page.{Page}
use Rattle.semantics.specs.RunArea.{run_of, run_sound, reached_of, worklist_of}
use Rattle.semantics.proofs.Areas.{length_run, run_long}
use Rattle.semantics.proofs.Invariant.{no_cause_holds}
use Rattle.semantics.specs.Stalls.{Stall, first, second, other, run_length, shared_length, beginning, part_of, with_part}

-- any operation leaves as many numbers as it is lent
pub length_operation : (a r : List ℕ) (c : Call) → length (operation a r c).run ≡ length r
unfolding operation
length_operation a r c = go (first_of (run_causes a r)) refl
  where
    done : Outcome
    done = outcome (page_of a) (reached_of (page_of a) r) (worklist_of (page_of a) r) c

    go : (o : Option ℕ) → first_of (run_causes a r) ≡ o → length (left_as o (page_of a) r done).run ≡ length r
    go (some k) e = refl
    go none e =
        omega (
          arith,
          length-append (run_of (page_of a) (reached_of (page_of a) r) done.state) (drop (3 * (page_of a).conditions) r),
          length_run (page_of a) (reached_of (page_of a) r) done.state,
          length-drop (3 * (page_of a).conditions) r,
          run_long (page_of a) r (not-false (run_sound (page_of a) r) (no_cause_holds (run_causes a r) e).1.0),
        )

module _ (page : Page) where
  abbrev n : ℕ
  n = run_length page

  pub fits : (s : Stall) → beginning page s + n ≤ shared_length page
  fits first = omega arith
  fits second = omega arith

  module _ (s : Stall) (area : List ℕ) (long : shared_length page ≤ length area) where
    abbrev at : ℕ
    at = beginning page s

    pub length_part : length (part_of page s area) ≡ run_length page
    unfolding part_of
    length_part = length-take-le n (drop at area) (omega (arith, length-drop at area, fits s))

    head_length_lem : length (take at area) ≡ at
    head_length_lem = length-take-le at area (omega (arith, fits s))

    module _ (p : List ℕ) (l : length p ≡ run_length page) where
      pub part_with : part_of page s (with_part page s area p) ≡ p
      unfolding part_of with_part
      part_with =
          ap (λ (x : List ℕ). take n x) (drop_at (take at area) (p ++ drop (at + n) area) at head_length_lem)
          ∙ take_at p (drop (at + n) area) n l

      pub length_with : length (with_part page s area p) ≡ length area
      unfolding with_part
      length_with =
          omega (
            arith,
            length-append (take at area) (p ++ drop (at + n) area),
            length-append p (drop (at + n) area),
            head_length_lem,
            length-drop (at + n) area,
            fits s,
          )

  -- the two parts and what lies past them
  pub part_joined : (p : Stall → List ℕ) → ((s : Stall) → length (p s) ≡ run_length page) → (z : List ℕ) (s : Stall)
      → part_of page s (p first ++ (p second ++ z)) ≡ p s
  unfolding part_of
  part_joined p l z first = take_at (p first) (p second ++ z) n (l first)
  part_joined p l z second =
      ap (λ (x : List ℕ). take n x) (drop_at (p first) (p second ++ z) n (l first)) ∙ take_at (p second) z n (l second)

  pub past_joined : (p : Stall → List ℕ) → ((s : Stall) → length (p s) ≡ run_length page) → (z : List ℕ)
      → drop (shared_length page) (p first ++ (p second ++ z)) ≡ z
  past_joined p l z =
      ap (λ (x : List ℕ). drop (shared_length page) x) (sym (append_assoc (p first) (p second) z))
      ∙ drop_at (p first ++ p second) z (shared_length page) (omega (arith, length-append (p first) (p second), l first, l second))

  -- any area with the stall's part as it is may be written
  pub with_part_lem : (s : Stall) (x : List ℕ) → with_part page s x (part_of page s x) ≡ x
  unfolding with_part part_of
  with_part_lem s x =
      ap (λ (l : List ℕ). take (beginning page s) x ++ (take n (drop (beginning page s) x) ++ l)) (sym (drop-drop n (beginning page s) x))
      ∙ ap (λ (l : List ℕ). take (beginning page s) x ++ l) (take-append-drop n (drop (beginning page s) x)) ∙ take-append-drop (beginning page s) x

  -- what is put in one part leaves the other, and what lies past 6 × C
  module _ (area : List ℕ) (long : shared_length page ≤ length area) (p : List ℕ) (l : length p ≡ run_length page) where
    pub other_kept : (s : Stall) → part_of page (other s) (with_part page s area p) ≡ part_of page (other s) area
    unfolding part_of with_part
    other_kept first = ap (λ (x : List ℕ). take n x) (drop_at p (drop (0 + n) area) n l) ∙ ap (λ (k : ℕ). take n (drop k area)) (zero-add n)
    other_kept second = take_at (take n area) (p ++ drop (n + n) area) n (length-take-le n area (omega arith))

    pub past_kept : (s : Stall) → drop (shared_length page) (with_part page s area p) ≡ drop (shared_length page) area
    unfolding with_part
    past_kept s =
        let at = beginning page s in
        let k = shared_length page - (at + n) in
        let e : shared_length page ≡ (at + n) + k = omega (arith, fits s) in
        let h : length (take at area ++ p) ≡ at + n = omega (arith, length-append (take at area) p, length-take-le at area (omega (arith, fits s))) in
        ap₂ (λ (i : ℕ) (x : List ℕ). drop i x) e (sym (append_assoc (take at area) p (drop (at + n) area)))
        ∙ sym (drop-drop k (at + n) ((take at area ++ p) ++ drop (at + n) area))
        ∙ ap (λ (x : List ℕ). drop k x) (drop_at (take at area ++ p) (drop (at + n) area) (at + n) h)
        ∙ drop-drop k (at + n) area ∙ ap (λ (i : ℕ). drop i area) (sym e)
