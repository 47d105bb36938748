-- What the lines of a trial give a condition, line by line. Assumes nothing.
use mathlib.Core.Path.{◌≡◌, refl, sym, ◌∙◌, ap, ap₂}
use mathlib.Core.List.{List, [], ◌∷◌, ◌++◌}
use mathlib.Core.Option.{Option, none, some}
use Prim.Native.Nat.{ℕ, suc, ◌/◌, ◌<◌}
use native.Mathlib.Omega.{arith}
use lib.ListN.{length, get_or, drop, length-append}
use borrow.Author.Tests.{eq-eqb, ne_eqb}
use Rattle.fixpoint.specs.Interval.{Interval}
use Rattle.semantics.specs.ReadPage.{or_else}
use Rattle.semantics.specs.Trials.{TrialLine, interval_for, tried}
use Rattle.std.specs.Prelude as code
use Rattle.std.specs.Prelude.{None, Some, is_some}
use Rattle.std.specs.Option.{option_or}
use Rattle.value.specs.declared.Ends.{Ends}
use Rattle.change.specs.Trial.{trial_at, lines_at, lines_in, given_of, is_given}

-- a line of another condition gives nothing, one of the condition its interval
module _ (line : List ℕ) (c : ℕ) where
  pub line_other : (get_or line 1 0 ≡ c → ⊥) → none ≡ interval_for (trial_at line) c
  line_other n = rw (ne_eqb (get_or line 1 0) c n)

  pub line_same : get_or line 1 0 ≡ c → some (record { low = get_or line 2 0; high = get_or line 3 0 }) ≡ interval_for (trial_at line) c
  line_same e = rw (eq-eqb (get_or line 1 0) c e)

else_nothing : (o : Option Interval) → o ≡ or_else o none
else_nothing none = refl
else_nothing (some p) = refl

else_assoc : (o p q : Option Interval) → or_else (or_else o p) q ≡ or_else o (or_else p q)
else_assoc none p q = refl
else_assoc (some r) p q = refl

-- the numbers of a line with others behind it
front_at : (line rest : List ℕ) → length line ≡ 4 → (drop 4 (line ++ rest) ≡ rest) × (trial_at (line ++ rest) ≡ trial_at line)
front_at (t ∷ c ∷ l ∷ h ∷ []) rest e = (refl, refl)
front_at [] rest e = absurd (omega arith)
front_at (t ∷ []) rest e = absurd (omega arith)
front_at (t ∷ c ∷ []) rest e = absurd (omega arith)
front_at (t ∷ c ∷ l ∷ []) rest e = absurd (omega arith)
front_at (t ∷ c ∷ l ∷ h ∷ x ∷ xs) rest e = absurd (omega arith)

module _ (p : List ℕ) (c : ℕ) where
  -- the lines still to come give c what the whole trial gives it, and where they give nothing, it is what those passed give
  pub record Giving (rest : List ℕ) (given : Option Interval) : Type 0 where
    pub is : tried (lines_in p) c ≡ or_else (tried (lines_in rest) c) given

  pub giving_first : Giving p none
  giving_first = record { is = else_nothing (tried (lines_in p) c) }

  module _ {rest : List ℕ} {given : Option Interval} (s : Giving rest given) where
    pub giving_next : (line : List ℕ) {rest' : List ℕ} → rest ≡ line ++ rest' → length line ≡ 4 → {g r : Option Interval} → g ≡ interval_for (trial_at line) c → r ≡ or_else g given → Giving rest' r
    unfolding lines_at tried
    giving_next line {rest'} e l {g} {r} f h =
        let w = front_at line rest' l in
        let n : length rest / 4 ≡ suc (length rest' / 4) = omega (arith, ap length e, length-append line rest') in
        let cons : lines_in rest ≡ trial_at line ∷ lines_in rest' =
        ap₂ {C = List TrialLine} (λ (k : ℕ) (q : List ℕ). lines_at k q) n e
        ∙ ap₂ {C = List TrialLine} (λ (t : TrialLine) (q : List ℕ). t ∷ lines_at (length rest' / 4) q) w.1 w.0 in
        record {
          is = s.is ∙ ap (λ (ls : List TrialLine). or_else (tried ls c) given) cons
              ∙ else_assoc (tried (lines_in rest') c) (interval_for (trial_at line) c) given ∙ rw (h, f);
        }

    pub giving_last : length rest < 4 → given ≡ tried (lines_in p) c
    unfolding lines_at tried
    giving_last l =
        let e : length rest / 4 ≡ 0 = omega arith in
        sym (s.is ∙ ap (λ (m : ℕ). or_else (tried (lines_at m rest) c) given) e)

-- in the code's words: the later one's, if it gives anything; and whether something is given
pub given_or : (later earlier : code.Option Ends) → given_of (option_or later earlier) ≡ or_else (given_of later) (given_of earlier)
given_or None earlier = refl
given_or (Some ends) earlier = refl

pub given_some : (o : code.Option Ends) → is_some o ≡ is_given (given_of o)
given_some None = refl
given_some (Some ends) = refl
