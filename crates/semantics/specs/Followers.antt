-- Document 02, ticket 12, "How far a condition reaches": who follows a condition, how many they are, and what the call answers. Assumes nothing.
use Rattle.std.specs.Prelude.{◌≡◌, ◌↔◌, Bool, true, not, List, [], ◌∷◌, ℕ, ◌<◌, leb}
use Rattle.std.proofs.Math.Option.{Option, none, some}
use Rattle.fixpoint.specs.Sum.{count}
use Rattle.semantics.specs.Page.{Page, names}
use Rattle.semantics.specs.Area.{sound, page_of}
use Rattle.semantics.specs.Call.{Cause, cause, first_of}
use Rattle.semantics.specs.Layers.{Chain}

-- a follows c: it names c "directly or through others", by a naming step and the chain of naming steps behind it. So a condition follows
-- itself only "if a chain leads back to it".
pub record Follows (page : Page) (a c : ℕ) : Type 0 where
  pub next : ℕ
  pub step : names page a next ≡ true
  pub negated : Bool
  pub chain : Chain page next c negated

-- "the count of conditions that name it directly or through others": the set of the conditions that follow c has k elements
pub record FollowerCount (page : Page) (c k : ℕ) : Type 0 where
  pub set : ℕ → Bool
  pub exactly : (a : ℕ) → a < page.conditions → (set a ≡ true) ↔ Follows page a c
  pub size : count page.conditions set ≡ k

-- a refusal's number, or the count
pub data FollowersAnswer : Type 0 where
  refused_followers : (number : ℕ) → FollowersAnswer
  followed_by : (count : ℕ) → FollowersAnswer

-- 10 page area not sound; 15 the condition is C or more
abbrev pub followers_causes : (area : List ℕ) → (condition : ℕ) → List Cause
followers_causes a c = cause (not (sound a)) 10 ∷ cause (leb (page_of a).conditions c) 15 ∷ []

abbrev pub FollowersAs : Option ℕ → FollowersAnswer → Page → ℕ → Type 0
FollowersAs (some k) answer page c = answer ≡ refused_followers k
FollowersAs none (refused_followers k) page c = ⊥
FollowersAs none (followed_by k) page c = FollowerCount page c k

-- There is exactly one such answer: `followers_exist`, `followers_one`.
unfoldable pub FollowersOf : FollowersAnswer → (area : List ℕ) → (condition : ℕ) → Type 0
FollowersOf answer a c = FollowersAs (first_of (followers_causes a c)) answer (page_of a) c
