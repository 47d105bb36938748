-- Lines in a row, one after the other: what is left when they were looked at. Assumes nothing.
use mathlib.Core.Path.{◌≡◌, refl, sym, ◌∙◌, ap, subst}
use mathlib.Core.Bool.{Bool, true, ◌||◌}
use mathlib.Core.List.{List}
use Prim.Native.Nat.{ℕ, ◌+◌, ◌≤◌, ◌<◌}
use native.Mathlib.Numerals.{add-one}
use native.Mathlib.Decide.{ℕ_discrete}
use native.Mathlib.Omega.{arith}
use lib.ListN.{drop}
use Rattle.fixpoint.proofs.Cond.{by_bool}
use Rattle.semantics.specs.Area.{line_at, top_of, conditions_of, count_of}
use Rattle.semantics.specs.Grade.{End}
use Rattle.fixpoint.proofs.Evaluation.{or_false}
use Rattle.page.specs.Lines.{Next}
use Rattle.page.specs.Places.{place_of, LineIn}
use Rattle.page.specs.Solvable.{solvable}
use Rattle.value.specs.Table.{end_of}
use Rattle.settle.specs.Scratch.{held, Covered, Raised, Looked}
use Rattle.settle.proofs.EndReads.{line_level}
use Rattle.settle.proofs.Raising.{line_ranged, room_less, steady_on}

module _ (e : End) (a : List ℕ) (m : List Bool) (place : ℕ → ℕ) where
  module _ (ok : solvable a ≡ true) {i : ℕ} (lines : (j : ℕ) → j < i → LineIn a (place j)) {s₀ s s' : List ℕ} {rose t : Bool}
      (v : Looked e a m place i s₀ s rose) (r : Raised e a m (place i) s s' t) where
    abbrev n : ℕ
    n = conditions_of a

    -- what is held in s' as in s₀ was held so in between
    between : (b : ℕ) → b < n → end_of e (held n s' b) ≡ end_of e (held n s₀ b) → end_of e (held n s' b) ≡ end_of e (held n s b)
    between b l z = omega (arith, v.steady.rises b l, r.steady.rises b l)

    before : (b : ℕ) → b < n → end_of e (held n s' b) ≡ end_of e (held n s₀ b) → end_of e (held n s b) ≡ end_of e (held n s₀ b)
    before b l z = omega (arith, v.steady.rises b l, r.steady.rises b l)

    -- a line looked at before
    earlier : (j : ℕ) → j < i → Covered e a m s₀ s' (place j)
    earlier j u c o q g p d =
        let y = line_level n (top_of a) e (held n s') (held n s) (line_at (drop (place j) a)) (line_ranged a ok (lines j u)) c
        (λ b k f. between b k (g b k f)) r.steady.others d in
        omega (arith, y.2, v.covered j u c o q (λ b k f. before b k (g b k f)) y.0 y.1, r.steady.rises c o)

    pub looked_next : Looked e a m place (i + 1) s₀ s' (rose || t)
    looked_next =
        record {
          half = r.half;
          steady = steady_on v.steady r.steady;
          still = λ z. let y = or_false rose t z in r.still y.1 ∙ v.still y.0;
          moves = λ z. by_bool rose (λ y. omega (arith, v.moves y, room_less e a s s' r.steady.rises))
              (λ y. omega (arith, r.moves (sym (ap (λ (b : Bool). b || t) y) ∙ z), room_less e a s₀ s v.steady.rises));
          covered = λ j u. elim (ℕ_discrete j i) [
            | yes z ↦ subst (λ (k : ℕ). Covered e a m s₀ s' (place k)) (sym z) (λ c o q g p d. r.covered c o q (λ b k f. between b k (g b k f)) p d)
            | no z ↦ earlier j (omega arith)
          ];
          only = λ c l g. r.only c l (g i (omega arith)) ∙ v.only c l (λ j u. g j (omega arith));
        }

-- the loop over the page: `passed` lines were looked at, and the next stands at `at`
pub record Sweeping (e : End) (a : List ℕ) (m : List Bool) (s₀ s : List ℕ) (at passed : ℕ) (rose : Bool) : Type 0 where
  pub sound : solvable a ≡ true
  pub in_count : passed ≤ count_of a
  pub place : at ≡ place_of a passed
  pub looked : Looked e a m (place_of a) passed s₀ s rose

module _ {e : End} {a : List ℕ} {m : List Bool} {s₀ s : List ℕ} {at passed : ℕ} {rose : Bool} (v : Sweeping e a m s₀ s at passed rose) where
  pub sweeping_next : {s' : List ℕ} {t : Bool} {at' passed' : ℕ} → passed < count_of a → Next a at passed at' passed' → Raised e a m at s s' t → Sweeping e a m s₀ s' at' passed' (rose || t)
  unfolding place_of
  sweeping_next {s'} {t} l x r =
      record {
        sound = v.sound;
        in_count = omega (arith, l, x.count);
        place = rw (x.place, x.count, add-one passed, v.place);
        looked = rw x.count
            (looked_next e a m (place_of a) v.sound (λ j u. record { number = j; in_count = omega (arith, l); place = refl }) v.looked
            (subst (λ (y : ℕ). Raised e a m y s s' t) v.place r));
      }
