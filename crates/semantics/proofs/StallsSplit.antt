-- What a drive takes of its allowance, and what the split of a turn gives. Assumes nothing.
use mathlib.Core.Path.{◌≡◌, refl, ◌∙◌, ap, ap₂}
use mathlib.Core.Bool.{Bool}
use mathlib.Core.List.{List}
use mathlib.Core.Option.{Option, none, some}
use Prim.Native.Nat.{ℕ, zero, suc, ◌+◌, ◌-◌, ◌≤◌, min}
use native.Mathlib.Decide.{dec_le}
use native.Mathlib.Omega.{arith}
use Rattle.semantics.specs.Page.{Page}
use Rattle.semantics.specs.Worklist.{Worklist, evaluated, lowest, Status, rest, spent, status, drive_from, driven}
use Rattle.semantics.proofs.Keeps.{drive_exact}
use Rattle.semantics.specs.Stalls.{Stall, first, second, other, need, need_as, half, share, Halves}

-- a drive allowed less takes as much of it as one allowed more
taken_from : (page : Page) (m : List Bool) (k b : ℕ) (o : Option ℕ) (w : Worklist) → k ≤ b
    → (drive_from page m k o w).taken ≡ min k (drive_from page m b o w).taken
unfolding drive_from
taken_from page m zero b o w l = omega arith
taken_from page m (suc k) zero o w l = absurd (omega arith)
taken_from page m (suc k) (suc b) none w l = omega arith
taken_from page m (suc k) (suc b) (some A) w l =
    let h = taken_from page m k b (lowest (evaluated page m w A)) (evaluated page m w A) (omega arith) in omega arith

module _ (page : Page) (m : List Bool) (w : Worklist) (b : ℕ) where
  -- a drive allowed b takes what is needed: one that does not rest takes b
  pub need_taken : need page m w b ≡ (driven page m b w).taken
  unfolding need
  need_taken = go (status (driven page m b w).state) refl
    where
      go : (t : Status) → status (driven page m b w).state ≡ t → need_as t (driven page m b w).taken b ≡ (driven page m b w).taken
      go rest e = refl
      go spent e =
          elim (dec_le (suc (driven page m b w).taken) b) [
            | yes l ↦ absurd (let z : ◌≡◌ {A = ℕ} 0 1 = cc ((drive_exact page m b w).short l) in omega arith)
            | no l ↦ omega (arith, (drive_exact page m b w).allowed)
          ]

  -- what a drive allowed k of these takes
  pub taken_is : (k : ℕ) → k ≤ b → (driven page m k w).taken ≡ min k (need page m w b)
  taken_is k l = rw need_taken (taken_from page m k b (lowest w) w l)

pub other_twice : (s : Stall) → other (other s) ≡ s
other_twice first = refl
other_twice second = refl

pub halves_are : (b : ℕ) → Halves b
unfolding half
halves_are b = record { whole = omega arith; larger = omega arith; nearly = omega arith }

-- The split, for any needs
halves : (b : ℕ) (s : Stall) → half b s + half b (other s) ≡ b
halves b first = (halves_are b).whole
halves b second = omega (arith, (halves_are b).whole)

takes : (h own k : ℕ) → min (min h own + k) own ≡ min (h + k) own
takes h own k = omega arith

-- what a stall takes of its share is what it needs of its half and of all that the other leaves
pub share_takes : (b own others : ℕ) (s : Stall) → min (share b s own others) own ≡ min (half b s + (half b (other s) - others)) own
unfolding share
share_takes b own others s = takes (half b s) own (half b (other s) - others)

both_take : (h g own others : ℕ) → min (h + (g - others)) own + min (g + (h - own)) others ≡ min (h + g) (own + others)
both_take h g own others = omega arith

-- nothing is lost and nothing made
pub shares_sum : (b own others : ℕ) (s : Stall) → share b s own others + share b (other s) others own ≡ b
unfolding share
shares_sum b own others s = rw (other_twice s) (omega (arith, halves b s))

pub share_within : (b own others : ℕ) (s : Stall) → share b s own others ≤ b
share_within b own others s = omega (arith, shares_sum b own others s)

-- "together they take b, or both needs if these sum to less"
pub shares_take : (b own others : ℕ) (s : Stall)
    → min (share b s own others) own + min (share b (other s) others own) others ≡ min b (own + others)
shares_take b own others s =
    ap₂ ◌+◌ (share_takes b own others s) (share_takes b others own (other s) ∙ ap (λ (u : Stall). min (half b (other s) + (half b u - own)) others) (other_twice s))
    ∙ both_take (half b s) (half b (other s)) own others ∙ ap (λ (x : ℕ). min x (own + others)) (halves b s)

-- "Each stall gets at least its half or its need."
pub share_least : (b own others : ℕ) (s : Stall) → min (half b s) own ≤ min (share b s own others) own
unfolding share
share_least b own others s = omega arith
