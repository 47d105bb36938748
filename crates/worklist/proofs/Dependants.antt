-- The dependants of a condition are woken: waking the heads that name it marks them. Assumes nothing.
use mathlib.Core.Path.{◌≡◌, refl, sym, ◌∙◌}
use mathlib.Core.Logic.{⊎_elim}
use mathlib.Core.Bool.{Bool, true, false, cond, ◌&&◌, true≢false}
use mathlib.Core.List.{List}
use Prim.Native.Nat.{ℕ, ◌*◌, ◌≤◌}
use native.Mathlib.Omega.{arith}
use lib.Dec.{leb}
use lib.ListN.{length}
use borrow.Author.Tests.{leb-true, le-leb}
use Rattle.semantics.specs.Area.{page_of, conditions_of}
use Rattle.semantics.specs.Page.{names}
use Rattle.semantics.specs.RunArea.{mark_at}
use Rattle.worklist.specs.Cells.{DependantsMarked}
use Rattle.page.proofs.Head.{head_of, conditions_is}
use Rattle.index.specs.Lookup.{DependantsAre}
use Rattle.index.proofs.Readers.{names_below}
use Rattle.worklist.specs.Waiting.{WordsMatch}
use Rattle.worklist.specs.Woken.{Among, HeadsBelow, HeadsIn, HeadsWoken, SetKept}
use Rattle.page.specs.Solvable.{solvable}

-- the marks, if the heads woken are those of a test
module _ {heads run run' : List ℕ} {k : ℕ} (s : HeadsWoken heads k run run') where
  marks_by : (t : Bool) (h : ℕ) → (Among heads k h → t ≡ true) → (t ≡ true → Among heads k h) → mark_at run' h ≡ cond (leb 1 (mark_at run h) && t) 2 (mark_at run h)
  marks_by t h only every = go (leb 1 (mark_at run h)) t refl only every
    where
      go : (b t : Bool) → leb 1 (mark_at run h) ≡ b → (Among heads k h → t ≡ true) → (t ≡ true → Among heads k h) → mark_at run' h ≡ cond (b && t) 2 (mark_at run h)
      go true true e only every = s.woken h (every refl) (leb-true 1 (mark_at run h) e)
      go true false e only every = ⊎_elim (λ q. q) (λ q. absurd (true≢false (sym (only q.2)))) (s.others h)
      go false t e only every = ⊎_elim (λ q. q) (λ q. absurd (true≢false (sym (le-leb 1 (mark_at run h) q.1) ∙ e))) (s.others h)

module _ (a : List ℕ) (e : solvable a ≡ true) (c : ℕ) {heads : List ℕ} (g : DependantsAre a c heads) where
  dependants_below : HeadsBelow (conditions_of a) heads (length heads)
  dependants_below j l = names_below a e _ _ (g.only j l)

  pub dependants_in : {run : List ℕ} → 3 * conditions_of a ≤ length run → HeadsIn heads run
  dependants_in long =
      record { few = λ j l. omega (arith, dependants_below j l, (head_of a e).few); long = λ j l. omega (arith, dependants_below j l) }

  named : (h : ℕ) → Among heads (length heads) h → names (page_of a) h c ≡ true
  named h (j, l, q) = rw q at (g.only j l)

  every_named : (h : ℕ) → names (page_of a) h c ≡ true → Among heads (length heads) h
  every_named h q = g.every h q

  module _ {run run' : List ℕ} (s : HeadsWoken heads (length heads) run run') where
    pub dependants_marked : DependantsMarked (page_of a) c run run'
    dependants_marked =
        record {
          same_length = s.same_length;
          intervals = λ h m. s.intervals h;
          marks = λ h m. marks_by s (names (page_of a) h c) h (named h) (every_named h);
          beyond = rw (conditions_is a) (s.beyond (conditions_of a) dependants_below);
        }

    pub dependants_kept : {words words' : List ℕ} → SetKept heads (length heads) run words run' words' → WordsMatch (conditions_of a) run words → WordsMatch (conditions_of a) run' words'
    dependants_kept k w = k.kept (conditions_of a) dependants_below w
