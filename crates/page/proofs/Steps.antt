-- What a call of `Lines::next` tells, on the area that the scan is over: the place of the next line and where the scan stands then, or that all
-- lines are passed. Assumes nothing.
use mathlib.Core.Path.{◌≡◌, ◌∙◌}
use mathlib.Core.List.{List}
use Prim.Native.Nat.{ℕ, ◌≤◌, ◌<◌}
use Rattle.std.specs.Prelude.{Some, None}
use Rattle.semantics.specs.Area.{count_of}
use Rattle.page.specs.Lines.{Next}
use Rattle.page.specs.Places.{LineIn, Proceeds}

-- there is a next line: the scan stood at it, and stands behind its entry
pub record Stepped (a b : List ℕ) (at passed place at' passed' : ℕ) : Type 0 where
  pub same : b ≡ a
  pub more : passed < count_of a
  pub here : place ≡ at
  pub line : LineIn a place
  pub next : Next a at passed at' passed'

module _ {a b b' : List ℕ} {at passed at' passed' : ℕ} (e : b ≡ a) where
  pub stepped : {place : ℕ} → Proceeds b at passed (Some place) b' at' passed' → Stepped a b' at passed place at' passed'
  stepped {place} p = record { same = p.same ∙ e; more = rw e at p.gives.0; here = p.gives.1; line = record { number = passed; in_count = rw e at p.gives.0; place = p.gives.1 ∙ rw e at p.gives.2 }; next = rw e at p.gives.3 }

  -- there is none
  pub passed_all : Proceeds b at passed None b' at' passed' → count_of a ≤ passed
  passed_all p = rw e at p.gives.0
