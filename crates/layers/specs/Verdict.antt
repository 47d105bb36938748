-- What the answer of the check says. Assumes nothing.
use Rattle.std.specs.Prelude.{List, ℕ, Result, Ok, Err}
use Rattle.std.proofs.Math.Option.{none}
use Rattle.semantics.specs.Layers.{LayersAnswer, refused_layers, loops_at, layered, LayersAs}
use Rattle.semantics.specs.Page.{Page}
use Rattle.refusal.specs.Numbers as refusal
use Rattle.layers.specs.declared.LayersError.{LayersError}
use Rattle.layers.specs.declared.LayersError.TheVariants.{Refused, Loop}

-- a refusal's number; 30
abbrev pub number_of : LayersError → ℕ
number_of (Refused r) = refusal.number_of r
number_of (Loop c) = 30

-- the condition is told with 30
abbrev pub condition_of : LayersError → ℕ
condition_of (Refused r) = 0
condition_of (Loop c) = c

-- a refusal's number; 30 with the condition; the layers are written
abbrev pub verdict_of : Result (Unit {0}) LayersError → LayersAnswer
verdict_of (Err (Refused r)) = refused_layers (refusal.number_of r)
verdict_of (Err (Loop c)) = loops_at c
verdict_of (Ok u) = layered

-- the outcome where no cause before 30 holds
pub record Worked (answer : LayersAnswer) (page : Page) (slice slice' : List ℕ) : Type 0 where
  pub is : LayersAs none answer page slice slice'
