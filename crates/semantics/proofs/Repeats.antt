-- D lines: none is a second one for its condition exactly if no condition has two of them. Assumes nothing.
use mathlib.Core.Path.{◌≡◌, refl, ap}
use mathlib.Core.Bool.{Bool, true, false}
use mathlib.Core.List.{List, ◌∷◌}
use mathlib.Core.Option.{none}
use Prim.Native.Nat.{ℕ, ◌+◌, ◌≤◌}
use native.Mathlib.Omega.{arith}
use lib.Dec.{eqb}
use borrow.Author.Tests.{eqb-true, eq-eqb, leb-false, lt-leb}
use Rattle.fixpoint.specs.Sum.{bit}
use Rattle.semantics.specs.Call.{first_of}
use Rattle.semantics.specs.Page.{Line, fact, rule, query, default, defaults}
use Rattle.semantics.specs.ReadPage.{placed, repeat_causes}
use Rattle.semantics.proofs.Invariant.{NoCause}

-- a line counts the same at the end of the lines before it and at the front of those from it on
pub defaults_pass : (before : List Line) (line : Line) (ls : List Line) (c : ℕ) → defaults before c + defaults (line ∷ ls) c ≡ defaults (line ∷ before) c + defaults ls c
unfolding defaults
defaults_pass before (fact d l h) ls c = refl
defaults_pass before (rule d w op lits) ls c = refl
defaults_pass before (query r d) ls c = refl
defaults_pass before (default d) ls c = omega arith

-- a line that is not a second one leaves at most one
pub still_single : (before : List Line) (line : Line) → NoCause (repeat_causes before line) → (c : ℕ) → defaults before c ≤ 1 → defaults (line ∷ before) c ≤ 1
unfolding defaults
still_single before (fact d l h) w c s = s
still_single before (rule d v op lits) w c s = s
still_single before (query r d) w c s = s
still_single before (default d) w c s = go (eqb d c) refl
  where
    go : (t : Bool) → eqb d c ≡ t → bit t + defaults before c ≤ 1
    go true e = omega (arith, leb-false 1 (defaults before d) w.0, ap (λ (x : ℕ). defaults before x) (eqb-true d c e))
    go false e = omega (arith, s)

-- where there is at most one in all, no line is a second one
pub no_repeat : (before : List Line) (line : Line) (ls : List Line) → ((c : ℕ) → defaults before c + defaults (line ∷ ls) c ≤ 1)
    → placed 0 (first_of (repeat_causes before line)) ≡ none
unfolding defaults
no_repeat before (fact d l h) ls s = refl
no_repeat before (rule d w op lits) ls s = refl
no_repeat before (query r d) ls s = refl
no_repeat before (default d) ls s = rw (lt-leb 1 (defaults before d) (omega (arith, s d, ap bit (eq-eqb d d refl))))
