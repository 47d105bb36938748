-- A page area is sound if its head, its lines and its D numbers pass. Assumes nothing.
use mathlib.Core.Path.{◌≡◌, refl, sym, ◌∙◌}
use mathlib.Core.Logic.{⊎_elim}
use mathlib.Core.Bool.{Bool, true, false, ◌&&◌, false≢true}
use mathlib.Core.List.{List}
use Prim.Native.Nat.{ℕ}
use lib.ListN.{length}
use borrow.Author.Tests.{leb-true}
use Rattle.semantics.specs.Area.{every, head_tests, sound, sound_to, first_line, conditions_of, used_of}
use Rattle.semantics.specs.Table.{all_below}
use Rattle.semantics.proofs.Soundness.{every_true}
use Rattle.page.specs.Checks.{Headed, LinesChecked, number_tells}
use Rattle.page.proofs.Defaults.{defaults_twice, numbers_decide}

module _ (a : List ℕ) where
  -- a head that passes
  pub headed : every (head_tests 1024 a) ≡ true → Headed a
  headed e =
      let h = every_true (head_tests 1024 a) e in
      record {
        few = leb-true (conditions_of a) 512 h.1.1.1.1.1.1.0;
        begins = leb-true (first_line a) (used_of a) h.1.0;
        inside = leb-true (used_of a) (length a) h.1.1.0;
      }

  two_fail : (x y z : Bool) → y ≡ false → false ≡ (x && (y && (z && true)))
  two_fail true y z e = rw e refl
  two_fail false y z e = refl

  three_fail : (x y z : Bool) → z ≡ false → false ≡ (x && (y && (z && true)))
  three_fail true true z e = rw e refl
  three_fail true false z e = refl
  three_fail false y z e = refl

  pub head_fails : every (head_tests 1024 a) ≡ false → false ≡ sound a
  unfolding sound_to
  head_fails e = rw e refl

  module _ {seen : List ℕ} {passed : Bool} (l : LinesChecked a seen passed) where
    -- the lines do not pass, or a condition has two D lines
    pub lines_fail : passed ≡ false → false ≡ sound a
    unfolding sound_to
    lines_fail e = ⊎_elim (two_fail _ _ _) (λ t. three_fail _ _ _ (sym (defaults_twice a t))) (l.refused e)

    -- the D numbers decide
    pub numbers_last : every (head_tests 1024 a) ≡ true → passed ≡ true → all_below (conditions_of a) (number_tells a seen) ≡ sound a
    unfolding sound_to
    numbers_last h e = let g = l.collected e in numbers_decide a (headed h).few g.1 ∙ all_passed _ _ _ h g.0
      where
        all_passed : (x y z : Bool) → x ≡ true → y ≡ true → z ≡ (x && (y && (z && true)))
        all_passed true true true d e = refl
        all_passed true true false d e = refl
        all_passed true false z d e = absurd (false≢true e)
        all_passed false y z d e = absurd (false≢true d)
