-- The first cause that holds, in the order of the code's tests. Assumes nothing.
use mathlib.Core.Path.{◌≡◌, refl, sym, ◌∙◌, ap}
use mathlib.Core.Bool.{true, false, not}
use mathlib.Core.List.{List, [], ◌∷◌, ◌++◌}
use mathlib.Core.Option.{Option, none, some, none-ne-some}
use Prim.Native.Nat.{ℕ, ◌*◌, ◌≤◌, ◌<◌}
use lib.Dec.{leb}
use lib.ListN.{length}
use borrow.Author.Tests.{le-leb, lt-leb}
use Rattle.semantics.specs.Area.{sound, page_of, conditions_of}
use Rattle.semantics.specs.Call.{Cause, cause, first_of}
use Rattle.semantics.specs.Operation.{Opened, refused_opening, query_causes, open_causes, open_as, open_of}
use Rattle.semantics.specs.Reading.{closure, pass_count}
use Rattle.reach.specs.Opening.{accepted}
use Rattle.reach.specs.Queries.{list_causes}

-- 10, 11 and 12, whatever causes come behind them
module _ (a qs : List ℕ) (rest : List Cause) where
  abbrev causes : Option ℕ
  causes = first_of (query_causes a qs ++ rest)

  pub first_10 : sound a ≡ false → causes ≡ some 10
  first_10 e = rw e

-- the causes of a part of the list come first
pub first_before : (xs ys : List Cause) {k : ℕ} → first_of xs ≡ some k → first_of (xs ++ ys) ≡ some k
first_before [] ys e = absurd (none-ne-some _ e)
first_before (cause true k ∷ xs) ys e = e
first_before (cause false k ∷ xs) ys e = first_before xs ys e

pub first_after : (xs ys : List Cause) → first_of xs ≡ none → first_of (xs ++ ys) ≡ first_of ys
first_after [] ys e = refl
first_after (cause true k ∷ xs) ys e = absurd (none-ne-some _ (sym e))
first_after (cause false k ∷ xs) ys e = first_after xs ys e

-- an opening
module _ (a qs r : List ℕ) where
  -- what the answer and the run area must be, where the first cause is o
  abbrev outcome : Option ℕ → Opened
  outcome o = open_as o (page_of a) (closure (page_of a) qs) (pass_count (page_of a) qs) r

  abbrev behind : List Cause
  behind = cause (not (leb (3 * (page_of a).conditions) (length r))) 13 ∷ []

  open_as_lem : {o : Option ℕ} → first_of (open_causes a qs r) ≡ o → ((outcome o).answer ≡ (open_of a qs r).answer) × ((outcome o).run ≡ (open_of a qs r).run)
  unfolding open_of
  open_as_lem e = (ap (λ (o : Option ℕ). (outcome o).answer) (sym e), ap (λ (o : Option ℕ). (outcome o).run) (sym e))

  pub open_10 : sound a ≡ false → (refused_opening 10 ≡ (open_of a qs r).answer) × (r ≡ (open_of a qs r).run)
  open_10 e = open_as_lem (first_10 a qs behind e)

  module _ (e : sound a ≡ true) where
    -- past 10 the causes of the list come first
    causes_are : first_of (open_causes a qs r) ≡ first_of (list_causes (conditions_of a) qs ++ behind)
    unfolding page_of
    causes_are = rw e

    pub open_refused : {k : ℕ} → some k ≡ first_of (list_causes (conditions_of a) qs) → (refused_opening k ≡ (open_of a qs r).answer) × (r ≡ (open_of a qs r).run)
    open_refused {k} f = open_as_lem {o = some k} (causes_are ∙ first_before (list_causes (conditions_of a) qs) behind (sym f))

    module _ (f : none ≡ first_of (list_causes (conditions_of a) qs)) where
      pub open_13 : length r < 3 * conditions_of a → (refused_opening 13 ≡ (open_of a qs r).answer) × (r ≡ (open_of a qs r).run)
      unfolding page_of
      open_13 l = open_as_lem {o = some 13} (causes_are ∙ first_after (list_causes (conditions_of a) qs) behind (sym f) ∙ rw (lt-leb (3 * conditions_of a) (length r) l))

      pub open_none : 3 * conditions_of a ≤ length r → ((accepted a qs r).answer ≡ (open_of a qs r).answer) × ((accepted a qs r).run ≡ (open_of a qs r).run)
      unfolding page_of
      open_none l = open_as_lem {o = none} (causes_are ∙ first_after (list_causes (conditions_of a) qs) behind (sym f) ∙ rw (le-leb (3 * conditions_of a) (length r) l))
