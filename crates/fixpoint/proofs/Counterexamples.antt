-- Why `Agrees` is asked for: one condition, with top 1 and no free condition, whose T crosses nothing that is not crossed,
-- and yet its closed reading is [1; 0], found after 2 rounds and not 1. Assumes nothing.
use mathlib.Core.Path.{◌≡◌, refl, sym, ◌∙◌, ap, subst}
use mathlib.Core.Bool.{Bool, true, false}
use Prim.Native.Nat.{ℕ, zero, suc, ◌*◌, ◌-◌, ◌≤◌, ◌<◌, min}
use native.Mathlib.Omega.{arith}
use Rattle.fixpoint.specs.Interval.{Interval, Ordered, Assign}
use Rattle.fixpoint.specs.KnowledgeOrder.{bottom}
use Rattle.fixpoint.specs.System.{System, Consistent, Agrees}
use Rattle.fixpoint.specs.LeastFixpoint.{iter, lfp}
use Rattle.fixpoint.specs.Sum.{sum, count}
use Rattle.fixpoint.specs.ChaoticIteration.{DependencyClosed}
use Rattle.fixpoint.specs.Support.{roof, raise, support, close}
use Rattle.fixpoint.specs.WellFounded.{closed}
use Rattle.fixpoint.specs.AlternatingFixpoint.{lift}
use Rattle.fixpoint.specs.Reachable.{IsCount}

odd : Assign → ℕ → Interval
odd I c = record { low = 1; high = 1 - (min (I 0).low 1 - (I 0).high) }

all : ℕ → ℕ → Bool
all a b = true

none : ℕ → Bool
none c = false

odd_system : System 1 1 odd all
unfolding odd all
odd_system =
    record {
      local = λ I J a l h. ap (λ (p : Interval). record { low = 1; high = 1 - (min p.low 1 - p.high) }) (h 0 (omega arith) refl);
      mono = λ I J h a l. omega (arith, h 0 (omega arith));
      bounded = λ I h a l. omega arith;
    }

odd_consistent : Consistent 1 odd
unfolding odd
odd_consistent = record { consistent = λ I h a l. omega (arith, h 0 (omega arith)) }

odd_closed : closed 1 1 odd none 0 ≡ record { low = 1; high = 0 }
unfolding odd none closed lfp iter bottom close support raise roof
odd_closed = refl

pub consistent_is_not_enough : ((n top : ℕ) (T : Assign → ℕ → Interval) (free : ℕ → Bool) (names : ℕ → ℕ → Bool) → System n top T names → Consistent n T → (c : ℕ) → c < n → Ordered (closed n top T free c)) → ⊥
consistent_is_not_enough f =
    let h : Ordered (closed 1 1 odd none 0) = f 1 1 odd none all odd_system odd_consistent 0 (omega arith) in
    let k : 1 ≤ 0 = subst Ordered odd_closed h in
    omega arith

-- the rounds
every : ℕ → Bool
every c = true

abbrev after : ℕ → Interval
after k = iter 1 (close 1 1 odd none) k 0

after_0 : after 0 ≡ record { low = 0; high = 1 }
unfolding iter bottom
after_0 = refl

after_1 : after 1 ≡ record { low = 1; high = 1 }
unfolding odd none lfp iter bottom close support raise roof
after_1 = refl

after_2 : after 2 ≡ record { low = 1; high = 0 }
unfolding odd none lfp iter bottom close support raise roof
after_2 = refl

after_3 : after 3 ≡ record { low = 1; high = 0 }
unfolding odd none lfp iter bottom close support raise roof
after_3 = refl

moves : (j : ℕ) → j < 2 → after j ≡ after (suc j) → ⊥
moves zero l e =
    let h : ◌≡◌ {A = ℕ} 0 1 = ap (λ (p : Interval). p.low) (sym after_0 ∙ e ∙ after_1) in
    omega arith
moves (suc zero) l e =
    let h : ◌≡◌ {A = ℕ} 1 0 = ap (λ (p : Interval). p.high) (sym after_1 ∙ e ∙ after_2) in
    omega arith
moves (suc (suc j)) l e = absurd (omega arith)

odd_count : IsCount 1 1 (close 1 1 odd none) every 2
unfolding every
odd_count =
    record {
      still = λ c l r. subst (λ (b : ℕ). iter 1 (close 1 1 odd none) 2 b ≡ iter 1 (close 1 1 odd none) 3 b) (omega arith) (after_2 ∙ sym after_3);
      moving = λ j l h. moves j l (h 0 (omega arith) refl);
    }

pub agrees_is_needed : ((n top : ℕ) (T : Assign → ℕ → Interval) (free : ℕ → Bool) (names : ℕ → ℕ → Bool) (reached : ℕ → Bool) (k : ℕ) → System n top T names → Consistent n T → DependencyClosed n names reached
    → IsCount n top (close n top T free) reached k → k ≤ count n reached * top) → ⊥
unfolding every
agrees_is_needed f =
    let h : 2 ≤ count 1 every * 1 = f 1 1 odd none all every 2 odd_system odd_consistent (λ a b l m r e. refl) odd_count in
    let k : count 1 every ≡ 1 = unfold sum in refl in
    omega arith

-- `lift` may cross what is not crossed, even with `Agrees`: over high ends that lie under the low ends of X. So runs over it ask that
-- their least fixed point is not crossed. Both conditions are as 1 is, and 0 is free.
follow : Assign → ℕ → Interval
follow I c = I 1

first_free : ℕ → Bool
first_free zero = true
first_free (suc c) = false

follow_agrees : Agrees 2 follow
unfolding follow
follow_agrees = record { agrees = λ I J h k c l. h 1 (omega arith) }

follow_crossed : lift 1 follow first_free (λ c. record { low = 0; high = 0 }) (λ c. record { low = 1; high = 1 }) 0 ≡ record { low = 1; high = 0 }
unfolding lift follow first_free
follow_crossed = refl

pub lift_may_cross : ((n top : ℕ) (T : Assign → ℕ → Interval) (free : ℕ → Bool) (H : Assign) → Agrees n T → Consistent n (lift top T free H)) → ⊥
lift_may_cross f =
    let h : Ordered (lift 1 follow first_free (λ c. record { low = 0; high = 0 }) (λ c. record { low = 1; high = 1 }) 0) =
    (f 2 1 follow first_free (λ c. record { low = 0; high = 0 }) follow_agrees).consistent (λ c. record { low = 1; high = 1 }) (λ b m. omega arith) 0 (omega arith) in
    let k : 1 ≤ 0 = subst Ordered follow_crossed h in
    omega arith
