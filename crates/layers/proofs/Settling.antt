-- The passes come to an end: with the least layers, or with a chain through a negation that leads back. Assumes nothing.
use mathlib.Core.Path.{◌≡◌, ◌∙◌, subst}
use mathlib.Core.Bool.{false, false≢true}
use mathlib.Core.List.{List}
use Prim.Native.Nat.{ℕ, suc, ◌+◌, ◌≤◌, ◌<◌}
use Rattle.std.specs.Prelude.{Some}
use native.Mathlib.Omega.{arith}
use lib.ListN.{length}
use Rattle.semantics.specs.Layers.{LowestLoop}
use Rattle.semantics.specs.Page.{Page}
use Rattle.semantics.proofs.Proper.{Proper}
use Rattle.semantics.proofs.Raising.{Founded, Pass, After, after_none, after_pass, high_loops, late_change}
use Rattle.layers.specs.Raising.{layer_in, Low, Zero, PassRaised, Settled}

module _ (page : Page) (w : Proper page) where
  abbrev n : ℕ
  n = page.conditions

  -- k passes are made, each of which raised a layer
  pub record Settling (layers : List ℕ) (k : ℕ) : Type 0 where
    pub size : length layers ≡ n
    pub low : Low 511 layers
    pub after : After page w k (layer_in layers)
    pub late : n ≤ k → (c : ℕ) × LowestLoop page c

  pub settling_first : {layers : List ℕ} → length layers ≡ n → Zero layers → Settling layers 0
  settling_first s z = record { size = s; low = λ c. omega (arith, z c); after = after_none page w _ (λ c l. z c); late = λ l. absurd (omega (arith, w.conditions_least)) }

  -- a pass that raised to r
  module _ {layers layers' : List ℕ} {k r : ℕ} (s : Settling layers k) (p : PassRaised page layers layers' (Some r)) where
    founded : Founded page (layer_in layers')
    founded = record { founded = λ m h c l. p.under m h (λ d i. s.after.based.founded m h d i) c l }

    pass : Pass page w (layer_in layers) (layer_in layers')
    pass = record { based = founded; names_raise = p.named; negates_raise = p.negated }

    pub settled_high : n ≤ r → Settled page layers' false
    settled_high l =
        let f = p.some in
        record {
          size = p.size ∙ s.size;
          layered = λ t. absurd (false≢true t);
          looped = λ t. high_loops page w (layer_in layers') founded f.0 f.1 (omega (arith, f.3));
        }

    pub settling_next : r < n → k < n → Settling layers' (k + 1)
    settling_next l m =
        record {
          size = p.size ∙ s.size;
          low = λ c. omega (arith, s.low c, p.most c, w.conditions_most);
          after = subst (λ (j : ℕ). After page w j (layer_in layers')) {x = suc k} {y = k + 1} (omega arith) (after_pass page w s.after pass);
          late = λ q. let f = p.some in late_change page w s.after (omega arith) pass f.0 f.1 (λ e. omega (arith, f.2, e));
        }
