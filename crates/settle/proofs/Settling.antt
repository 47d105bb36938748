-- One end of every reached condition, settled: where no line adds more than its head holds. Assumes nothing.
use mathlib.Core.Path.{◌≡◌, refl, sym, ◌∙◌, ap, subst}
use mathlib.Core.Bool.{Bool, true, false, false≢true}
use mathlib.Core.List.{List}
use Prim.Native.Nat.{ℕ, ◌<◌}
use native.Mathlib.Omega.{arith}
use Rattle.semantics.specs.Area.{page_of, conditions_of, count_of}
use Rattle.semantics.specs.Body.{unknown_by_default}
use Rattle.semantics.specs.Grade.{End}
use Rattle.semantics.specs.Table.{member}
use Rattle.page.specs.Places.{place_of}
use Rattle.page.specs.Solvable.{solvable}
use Rattle.value.specs.Table.{end_of}
use Rattle.settle.specs.Scratch.{held, room_at, Half, Steady, Looked, RestsAt, Settled}
use Rattle.settle.proofs.Halves.{settled_at, settled_others}
use Rattle.settle.proofs.Raising.{S, E, room_less, steady_on, rests_by}

module _ (e : End) (a : List ℕ) (m : List Bool) where
  abbrev n : ℕ
  n = conditions_of a

  -- on the way
  pub record Settling (s₀ s : List ℕ) (changed : Bool) : Type 0 where
    pub half : Half e a m s
    pub steady : Steady e a m s₀ s
    pub still : changed ≡ false → s ≡ s₀
    pub moves : changed ≡ true → room_at e a s < room_at e a s₀

  -- a look that raised an end
  module _ {s₀ s s' : List ℕ} {place : ℕ → ℕ} {to : ℕ} {changed : Bool} (v : Settling s₀ s changed) (r : Looked e a m place to s s' true) where
    pub settling_next : Settling s₀ s' true
    settling_next =
        record {
          half = r.half;
          steady = steady_on v.steady r.steady;
          still = λ z. absurd (false≢true (sym z));
          moves = λ z. omega (arith, r.moves refl, room_less e a s₀ s v.steady.rises);
        }

  -- where T makes no more of any reached condition than it holds, the ends are settled
  pub settling_last : solvable a ≡ true → {s₀ s : List ℕ} {changed : Bool} → Settling s₀ s changed → ((c : ℕ) → c < n → member m c ≡ true → RestsAt e a s c) → Settled e a m s₀ s changed
  settling_last ok {s₀} {s} v q =
      let h = v.half in
      record {
        half = h;
        steady = v.steady;
        still = v.still;
        moves = v.moves;
        rests = q;
        ends = λ c l r.
            settled_at (S a ok) (E a ok) (unknown_by_default (page_of a)) e (held n s) h.within h.shut (held n s) (λ b i. refl) (λ b i f. refl) h.below q c l r
            ∙ settled_others (S a ok) (E a ok) (unknown_by_default (page_of a)) e (held n s) (held n s₀) v.steady.others v.steady.stayed c l;
      }

  -- if a sweep raised nothing, T makes no more of any
  pub swept : solvable a ≡ true → {s s' : List ℕ} → Looked e a m (place_of a) (count_of a) s s' false → (s' ≡ s) × ((c : ℕ) → c < n → member m c ≡ true → RestsAt e a s c)
  swept ok {s} {s'} r =
      let z : s' ≡ s = r.still refl in (
        z,
        λ c l q. subst (λ (t : List ℕ). RestsAt e a t c) z
            (rests_by ok r.half c l q
            (λ j u p d. r.covered j u c l q (λ b i f. ap (λ (t : List ℕ). end_of e (held n t b)) z) p d)),
      )
