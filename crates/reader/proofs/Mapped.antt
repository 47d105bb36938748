-- A result whose error is mapped, by what comes of it. Assumes nothing.
use mathlib.Core.Path.{◌≡◌, refl}
use mathlib.Core.Bool.{true, false}
use Rattle.std.proofs.Common.{Result, Ok, Err}
use Rattle.std.specs.Result.{MatchResult, is_ok}

module _ {A E : Type 0} where
  pub mapped_ok : (D : Type 0) (Q : E → Type 0) {x : A} (r : Result A E) → true ≡ is_ok r → MatchResult r (λ y. ◌≡◌ {A = Result A D} (Ok x) (Ok y)) Q → r ≡ Ok x
  mapped_ok D Q (Ok y) e h = cc
  mapped_ok D Q (Err y) e h = cc

  pub mapped_err : (P : A → Type 0) (Q : E → Type 0) (r : Result A E) → false ≡ is_ok r → MatchResult r P Q → (y : E) × (r ≡ Err y) × Q y
  mapped_err P Q (Ok y) e h = cc
  mapped_err P Q (Err y) e h = (y, refl, h)
