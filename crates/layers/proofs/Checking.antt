-- The outcome of the check, cause by cause. Assumes nothing.
use mathlib.Core.Path.{◌≡◌, refl, sym, ◌∙◌, ap₂}
use mathlib.Core.Bool.{true, false}
use mathlib.Core.List.{List, ◌++◌}
use Prim.Native.Nat.{ℕ, zero, suc, ◌≤◌, ◌<◌}
use lib.ListN.{length, get_or, take, drop, replicate}
use borrow.Author.Tests.{le-leb, lt-leb}
use Rattle.semantics.specs.Area.{sound, page_of, conditions_of}
use Rattle.semantics.specs.Layers.{LeastLayers, LayersAnswer, refused_layers, layered, LayersOf}
use Rattle.semantics.specs.Page.{Page}
use Rattle.semantics.proofs.Table.{table_back}
use Rattle.layers.specs.Raising.{layer_in}
use Rattle.layers.specs.Verdict.{Worked}

module _ (page : Page) where
  -- the layers are copied
  pub worked_layers : (t : List ℕ) {slice slice' : List ℕ} → length t ≡ page.conditions → LeastLayers page (layer_in t) → slice' ≡ t ++ drop (length t) slice → Worked layered page slice slice'
  worked_layers t {slice} s h e =
      record {
        is = record {
          layer = layer_in t;
          is_least = h;
          written = e ∙ ap₂ (λ (x : List ℕ) (k : ℕ). x ++ drop k slice) (sym (table_back 0 t page.conditions s)) s;
        };
      }

module _ (a s : List ℕ) where
  pub check_10 : sound a ≡ false → LayersOf (refused_layers 10) a s s
  unfolding LayersOf
  check_10 e = rw e (refl, refl)

  pub check_31 : sound a ≡ true → length s < conditions_of a → LayersOf (refused_layers 31) a s s
  unfolding LayersOf page_of
  check_31 e l = rw (e, lt-leb (conditions_of a) (length s) l) (refl, refl)

  pub check_worked : {answer : LayersAnswer} {s' : List ℕ} → sound a ≡ true → conditions_of a ≤ length s → Worked answer (page_of a) s s' → LayersOf answer a s s'
  unfolding LayersOf page_of
  check_worked e l w = rw (e, le-leb (conditions_of a) (length s) l) w.is

-- the table of the check: the first n of 512 zeros
pub part_same : (z n m c : ℕ) → get_or (take n (replicate m z)) c z ≡ z
part_same z zero m c = refl
part_same z (suc n) zero c = refl
part_same z (suc n) (suc m) zero = refl
part_same z (suc n) (suc m) (suc c) = part_same z n m c
