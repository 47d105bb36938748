-- Chains that are put together. Assumes nothing.
use mathlib.Core.Path.{◌≡◌}
use mathlib.Core.Bool.{Bool, true, false}
use Prim.Native.Nat.{ℕ}
use Rattle.semantics.specs.Layers.{negates, Chain, empty, name, negate, Loops}
use Rattle.semantics.specs.Page.{Page, names}
use Rattle.layers.specs.Levels.{Way}

module _ {page : Page} where
  joined : {a b c : ℕ} {s t : Bool} → Chain page a b s → Chain page b c t → Way page a c
  joined empty r = (_, r)
  joined (name e p) r = let q = joined p r in (q.0, name e q.1)
  joined (negate e p) r = let q = joined p r in (true, negate e q.1)

  through : {a u v c : ℕ} {s t : Bool} → Chain page a u s → negates page u v ≡ true → Chain page v c t → Chain page a c true
  through empty e r = negate e r
  through (name f p) e r = name f (through p e r)
  through (negate f p) e r = negate f (through p e r)

  pub way_here : (a : ℕ) → Way page a a
  way_here a = (false, empty)

  pub way_join : {a b c : ℕ} → Way page a b → Way page b c → Way page a c
  way_join p q = joined p.1 q.1

  pub way_name : {a b c : ℕ} → Way page a b → names page b c ≡ true → Way page a c
  way_name p e = joined p.1 (name e empty)

  -- a negation with a way to it and a way back
  pub way_loop : {c u v : ℕ} → Way page c u → negates page u v ≡ true → Way page v c → Loops page c
  way_loop p e q = through p.1 e q.1
