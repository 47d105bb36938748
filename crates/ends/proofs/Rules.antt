-- Both ends of a rule's value: what its entry gives the fold, at the high end too. Assumes nothing.
use mathlib.Core.Path.{◌≡◌, sym, ◌∙◌, subst}
use mathlib.Core.Bool.{true}
use mathlib.Core.List.{List}
use Prim.Native.Nat.{ℕ, ◌+◌, ◌*◌, ◌-◌, ◌≤◌, ◌<◌}
use native.Mathlib.Omega.{arith}
use lib.ListN.{length, get_or}
use Rattle.semantics.specs.Area.{top_of, conditions_of, kind, rule_kind}
use Rattle.semantics.specs.Grade.{upper, Op, combine}
use Rattle.page.specs.Graded.{RuleAt}
use Rattle.value.specs.LineEnds as one
use Rattle.value.proofs.RuleEnds.{rest, rest_code, code_under, foldable}
use Rattle.ends.specs.Mirror.{flip, mirrored, Mirrored, BothFoldable}
use Rattle.ends.proofs.Mirrors.{flip_below, mirrored_at}
use Rattle.page.specs.Solvable.{solvable}

module _ (a values : List ℕ) (at : ℕ) (ok : solvable a ≡ true) (g : Mirrored (top_of a) (conditions_of a) values) (r : RuleAt (top_of a) (conditions_of a) a at) where
  abbrev code : ℕ
  code = get_or a (at + 4) 0

  negation_in : (k : ℕ) → k < 2 * conditions_of a → flip k < length values
  negation_in k l = omega (arith, flip_below (conditions_of a) k l, g.low.long)

  negation_grade : (k : ℕ) → k < 2 * conditions_of a → get_or values (flip k) 0 ≤ top_of a
  negation_grade k l = g.low.grade (flip k) (flip_below (conditions_of a) k l)

  pub first_in : code < length values
  first_in = omega (arith, code_under a values at r, g.low.long)

  pub first_grade : get_or values code 0 ≤ top_of a
  first_grade = g.low.grade code (code_under a values at r)

  pub first_negation : (flip code < length values) × (get_or values (flip code) 0 ≤ top_of a)
  first_negation = (negation_in code (code_under a values at r), negation_grade code (code_under a values at r))

  module _ {h : ℕ} (q : h ≡ top_of a - get_or values (flip code) 0) where
    first_high : h ≡ get_or (mirrored (top_of a) values) code 0
    first_high = q ∙ sym (mirrored_at (top_of a) values code first_in)

    pub ends_foldable : BothFoldable (top_of a) (rest a values at r) values (get_or values code 0) h
    ends_foldable =
        record {
          low = foldable a values at r ok g.low;
          high = subst (one.Foldable (top_of a) (rest a values at r) (mirrored (top_of a) values)) (sym first_high) (foldable a (mirrored (top_of a) values) at r ok g.high);
          room = λ j l. negation_in _ (rest_code a values at r j l);
          under = λ j l. negation_grade _ (rest_code a values at r j l);
        }

    -- a fold from h is one from the number of the first literal in the mirrored table
    pub high_folded : {x : ℕ} → ((op : Op) → kind (get_or a (at + 1) 0) ≡ rule_kind op → one.Folded (combine (top_of a) op upper) (rest a values at r) (mirrored (top_of a) values) h x)
        → (op : Op) → kind (get_or a (at + 1) 0) ≡ rule_kind op → one.Folded (combine (top_of a) op upper) (rest a values at r) (mirrored (top_of a) values) (get_or (mirrored (top_of a) values) code 0) x
    high_folded {x} f op k = subst (λ (y : ℕ). one.Folded (combine (top_of a) op upper) (rest a values at r) (mirrored (top_of a) values) y x) first_high (f op k)
