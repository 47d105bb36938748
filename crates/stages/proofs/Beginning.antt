-- The loops before the first round: the high ends of the closed reading, and assignment 0. Assumes nothing.
use mathlib.Core.Path.{◌≡◌, sym, ◌∙◌, ap}
use mathlib.Core.Logic.{◌≢◌}
use mathlib.Core.Bool.{Bool, true, false}
use mathlib.Core.List.{List}
use Prim.Native.Nat.{ℕ, ◌+◌, ◌*◌, ◌-◌, ◌≤◌, ◌<◌}
use native.Mathlib.Omega.{arith}
use lib.ListN.{length, get_or, set, drop, length-set}
use lib.Seq.{get_or-set_same, get_or-set_other, drop-set-lt}
use Rattle.fixpoint.proofs.Cond.{cond_true, cond_false, cond_most}
use Rattle.semantics.specs.Area.{top_of, conditions_of}
use Rattle.semantics.specs.Table.{member}
use Rattle.rounds.proofs.Starting.{upto}
use Rattle.stages.specs.Steps.{free_at, first_high, BegunAt, first_top}
use Rattle.page.proofs.Head.{head_of}
use Rattle.page.specs.Solvable.{solvable}

-- the high ends of the conditions before c
module _ (a : List ℕ) (m : List Bool) (s : List ℕ) where
  abbrev n : ℕ
  n = conditions_of a

  pub record Copying (tops₀ tops : List ℕ) (c : ℕ) : Type 0 where
    pub within : c ≤ n
    pub long : n ≤ length tops
    pub same_length : length tops ≡ length tops₀
    pub copied : (d : ℕ) → d < c → member m d ≡ true → get_or tops d 0 ≡ first_top a s d

-- what is copied is a grade
pub first_small : (a s : List ℕ) (c : ℕ) → solvable a ≡ true → get_or s (2 * conditions_of a + 2 * c) 0 ≤ 200 → first_top a s c ≤ 200
first_small a s c ok h = cond_most (free_at a c) (λ e. (head_of a ok).top_most) (λ e. h)

-- the four numbers of the conditions before c
module _ (a : List ℕ) (m : List Bool) (s₀ : List ℕ) where
  abbrev size : ℕ
  size = conditions_of a

  pub record Beginning (s : List ℕ) (c : ℕ) : Type 0 where
    pub long : 4 * size ≤ length s
    pub marked : size ≤ length m
    pub within : c ≤ size
    pub same_length : length s ≡ length s₀
    pub beyond : drop (4 * size) s ≡ drop (4 * size) s₀
    pub each : (d : ℕ) → d < c → BegunAt a m s d

  module _ {s : List ℕ} {c : ℕ} (v : Beginning s c) (l : c < size) (y : ℕ) (q : y ≡ first_high a m c) where
    abbrev s₁ : List ℕ
    s₁ = set s (2 * c) 0

    abbrev s₂ : List ℕ
    s₂ = set s₁ (2 * c + 1) (top_of a - y)

    abbrev s₃ : List ℕ
    s₃ = set s₂ (2 * size + 2 * c) y

    abbrev s₄ : List ℕ
    s₄ = set s₃ (2 * size + (2 * c + 1)) (top_of a)

    long₁ : length s₁ ≡ length s
    long₁ = length-set s (2 * c) 0

    long₂ : length s₂ ≡ length s
    long₂ = length-set s₁ (2 * c + 1) (top_of a - y) ∙ long₁

    long₃ : length s₃ ≡ length s
    long₃ = length-set s₂ (2 * size + 2 * c) y ∙ long₂

    long₄ : length s₄ ≡ length s
    long₄ = length-set s₃ (2 * size + (2 * c + 1)) (top_of a) ∙ long₃

    else' : (j : ℕ) → j ≢ 2 * c → j ≢ 2 * c + 1 → j ≢ 2 * size + 2 * c → j ≢ 2 * size + (2 * c + 1) → get_or s₄ j 0 ≡ get_or s j 0
    else' j p₁ p₂ p₃ p₄ =
        get_or-set_other s₃ (2 * size + (2 * c + 1)) j (top_of a) 0 p₄ ∙ get_or-set_other s₂ (2 * size + 2 * c) j y 0 p₃
        ∙ get_or-set_other s₁ (2 * c + 1) j (top_of a - y) 0 p₂ ∙ get_or-set_other s (2 * c) j 0 0 p₁

    here : BegunAt a m s₄ c
    here =
        record {
          low = get_or-set_other s₃ (2 * size + (2 * c + 1)) (2 * c) (top_of a) 0 (λ z. omega arith) ∙ get_or-set_other s₂ (2 * size + 2 * c) (2 * c) y 0 (λ z. omega arith)
              ∙ get_or-set_other s₁ (2 * c + 1) (2 * c) (top_of a - y) 0 (λ z. omega arith) ∙ get_or-set_same s (2 * c) 0 0 (omega (arith, v.long));
          over_high = get_or-set_other s₃ (2 * size + (2 * c + 1)) (2 * c + 1) (top_of a) 0 (λ z. omega arith) ∙ get_or-set_other s₂ (2 * size + 2 * c) (2 * c + 1) y 0 (λ z. omega arith)
              ∙ get_or-set_same s₁ (2 * c + 1) (top_of a - y) 0 (omega (arith, v.long, long₁)) ∙ ap (λ (k : ℕ). top_of a - k) q;
          high = get_or-set_other s₃ (2 * size + (2 * c + 1)) (2 * size + 2 * c) (top_of a) 0 (λ z. omega arith) ∙ get_or-set_same s₂ (2 * size + 2 * c) y 0 (omega (arith, v.long, long₂)) ∙ q;
          over_low = get_or-set_same s₃ (2 * size + (2 * c + 1)) (top_of a) 0 (omega (arith, v.long, long₃));
        }

    before : (d : ℕ) → d < c → BegunAt a m s₄ d
    before d k =
        let b = v.each d k in
        record {
          low = else' (2 * d) (λ z. omega arith) (λ z. omega arith) (λ z. omega arith) (λ z. omega arith) ∙ b.low;
          over_high = else' (2 * d + 1) (λ z. omega arith) (λ z. omega arith) (λ z. omega arith) (λ z. omega arith) ∙ b.over_high;
          high = else' (2 * size + 2 * d) (λ z. omega arith) (λ z. omega arith) (λ z. omega arith) (λ z. omega arith) ∙ b.high;
          over_low = else' (2 * size + (2 * d + 1)) (λ z. omega arith) (λ z. omega arith) (λ z. omega arith) (λ z. omega arith) ∙ b.over_low;
        }

    pub beginning_next : Beginning s₄ (c + 1)
    beginning_next =
        record {
          long = omega (arith, v.long, long₄);
          marked = v.marked;
          within = omega arith;
          same_length = long₄ ∙ v.same_length;
          beyond = drop-set-lt (4 * size) s₃ (2 * size + (2 * c + 1)) (top_of a) (omega arith) ∙ drop-set-lt (4 * size) s₂ (2 * size + 2 * c) y (omega arith)
              ∙ drop-set-lt (4 * size) s₁ (2 * c + 1) (top_of a - y) (omega arith) ∙ drop-set-lt (4 * size) s (2 * c) 0 (omega arith) ∙ v.beyond;
          each = upto (BegunAt a m s₄) c before here;
        }

-- the high end that the loop stores
pub first_marked : (a : List ℕ) (m : List Bool) (c : ℕ) → member m c ≡ true → top_of a ≡ first_high a m c
first_marked a m c r = sym (cond_true (top_of a) 0 r)

pub first_unmarked : (a : List ℕ) (m : List Bool) (c : ℕ) → member m c ≡ false → ◌≡◌ {A = ℕ} 0 (first_high a m c)
first_unmarked a m c r = sym (cond_false (top_of a) 0 r)
