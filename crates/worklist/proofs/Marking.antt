-- The scan that marks the dependants of a condition, in the code's own terms. Assumes nothing.
use mathlib.Core.Path.{◌≡◌, refl, sym, ◌∙◌, ap}
use mathlib.Core.Bool.{Bool, true, false, cond, ◌&&◌, ◌||◌}
use mathlib.Core.List.{List}
use Prim.Native.Nat.{ℕ, ◌+◌, ◌*◌, ◌≤◌, ◌<◌}
use native.Mathlib.Omega.{arith}
use lib.Dec.{eqb, leb}
use lib.ListN.{length, get_or, drop}
use Rattle.semantics.specs.Area.{page_of, line_at, top_of, conditions_of, count_of, first_line}
use Rattle.semantics.specs.Page.{Line, names, lines_name}
use Rattle.semantics.specs.RunArea.{interval_at, mark_at}
use Rattle.page.specs.Lines.{Next, line_names, Scanning}
use Rattle.page.proofs.Naming.{lines_name_lem}
use Rattle.page.proofs.Scanning.{lines_left, scanning_first, lines_first, entry_ok, scanning_moved, lines_moved, lines_none}
use Rattle.page.proofs.Scan.{entry_head}
use Rattle.worklist.specs.Cells.{DependantsMarked}
use Rattle.worklist.specs.Marks.{marked}
use Rattle.page.proofs.Head.{conditions_is}
use Rattle.worklist.proofs.Stores.{marked_length, marked_apart, marked_beyond, marked_mark}
use Rattle.page.specs.Solvable.{solvable}

-- the mark of a condition that is a dependant if a test holds
abbrev pub dependant : Bool → ℕ → ℕ
dependant t mark = cond (leb 1 mark && t) 2 mark

pub dependant_or : (x r : Bool) (mark : ℕ) → dependant (x || r) mark ≡ dependant r (cond (x && leb 1 mark) 2 mark)
dependant_or false r mark = refl
dependant_or true r mark = go r (leb 1 mark) refl
  where
    go : (r s : Bool) → leb 1 mark ≡ s → cond (s && true) 2 mark ≡ dependant r (cond s 2 mark)
    go true true e = refl
    go false true e = refl
    go r false e = rw e

pub dependant_none : (t : Bool) (mark : ℕ) → t ≡ false → dependant t mark ≡ mark
dependant_none t mark e = rw e (go (leb 1 mark))
  where
    go : (s : Bool) → cond (s && false) 2 mark ≡ mark
    go true = refl
    go false = refl

module _ (a : List ℕ) (c : ℕ) (run₀ : List ℕ) where
  abbrev n : ℕ
  n = conditions_of a

  -- The scan stands at `at`, behind k lines: what the lines still to come make of `run` is what all lines make of run₀.
  pub record Marking (run : List ℕ) (at k : ℕ) : Type 0 where
    pub scan : Scanning a at k
    pub long : 3 * conditions_of a ≤ length run₀
    pub same_length : length run ≡ length run₀
    pub intervals : (h : ℕ) → interval_at run h ≡ interval_at run₀ h
    pub marks : (h : ℕ) → dependant (names (page_of a) h c) (mark_at run₀ h) ≡ dependant (lines_name (lines_left a at k) h c) (mark_at run h)
    pub beyond : drop (3 * conditions_of a) run ≡ drop (3 * conditions_of a) run₀

  pub marking_first : solvable a ≡ true → 3 * conditions_of a ≤ length run₀ → {at k : ℕ} → (at ≡ first_line a) × (k ≡ 0) → Marking run₀ at k
  marking_first e l q =
      rw (q.0, q.1)
      (record {
        scan = scanning_first a e;
        long = l;
        same_length = refl;
        intervals = λ h. refl;
        marks = λ h. ap (λ (ls : List Line). dependant (lines_name ls h c) (mark_at run₀ h)) (sym (lines_first a));
        beyond = refl;
      })

  module _ {run : List ℕ} {at k : ℕ} (s : Marking run at k) (l : k < count_of a) where
    -- the head of the entry is a condition
    head_in : get_or a at 0 < conditions_of a
    head_in = entry_head (top_of a) (conditions_of a) _ a at (entry_ok a s.scan l)

    head_fits : 3 * get_or a at 0 + 3 ≤ length run
    head_fits = omega (arith, head_in, s.long, s.same_length)

    pub marking_next : {run' : List ℕ} {at' k' : ℕ} → run' ≡ cond (line_names (line_at (drop at a)) c) (marked (get_or a at 0) run) run → Next a at k at' k' → Marking run' at' k'
    marking_next {run'} {at'} {k'} e q =
        let t = line_names (line_at (drop at a)) c in
        let d = get_or a at 0 in
        let ls = lines_left a at' k' in
        rw e
        (record {
          scan = scanning_moved a s.scan l q;
          long = s.long;
          same_length = marked_length t d run ∙ s.same_length;
          intervals = λ h. marked_apart t d run h ∙ s.intervals h;
          marks = λ h. s.marks h
              ∙ ap (λ (ls : List Line). dependant (lines_name ls h c) (mark_at run h)) (lines_moved a s.scan l q)
              ∙ ap (λ (b : Bool). dependant b (mark_at run h)) (lines_name_lem a at h c ls)
              ∙ dependant_or (eqb d h && t) (lines_name ls h c) (mark_at run h)
              ∙ ap (dependant (lines_name ls h c)) (sym (marked_mark t d run head_fits h));
          beyond = marked_beyond t d run (conditions_of a) head_in ∙ s.beyond;
        })

  pub marking_last : {run : List ℕ} {at k : ℕ} → Marking run at k → count_of a ≤ k → DependantsMarked (page_of a) c run₀ run
  unfolding lines_name
  marking_last {run} {at} {k} s l =
      record {
        same_length = s.same_length;
        intervals = λ h m. s.intervals h;
        marks = λ h m. sym (s.marks h ∙ dependant_none (lines_name (lines_left a at k) h c) (mark_at run h) (ap (λ (ls : List Line). lines_name ls h c) (lines_none a at k l)));
        beyond = rw (conditions_is a) s.beyond;
      }
