-- The followers of a condition: whoever has a walk of at least one step to it. Their count is one, and the call has one answer. Assumes nothing.
use mathlib.Core.Path.{◌≡◌, refl, sym, ◌∙◌, ap}
use mathlib.Core.Logic.{◌↔◌}
use mathlib.Core.Bool.{Bool, true, false, not, false≢true}
use mathlib.Core.List.{List, [], ◌∷◌}
use mathlib.Core.Option.{Option, none, some}
use Prim.Native.Nat.{ℕ, ◌<◌}
use native.Mathlib.Omega.{arith}
use lib.Dec.{leb}
use borrow.Author.Tests.{leb-false}
use Rattle.fixpoint.specs.Sum.{bit, count}
use Rattle.fixpoint.proofs.Sum.{sum_eq}
use Rattle.semantics.specs.Area.{sound, page_of}
use Rattle.semantics.specs.Call.{cause, first_of}
use Rattle.semantics.specs.Page.{Page, names}
use Rattle.semantics.proofs.Proper.{Proper}
use Rattle.semantics.proofs.Readings.{names_inside}
use Rattle.semantics.proofs.Soundness.{sound_proper}
use Rattle.semantics.proofs.Table.{iff_eq}
use Rattle.semantics.specs.Layers.{Chain, empty, name, negate, Loops}
use Rattle.semantics.specs.Followers.{Follows, FollowerCount, FollowersAnswer, refused_followers, followed_by, followers_causes, FollowersAs, FollowersOf}
use Rattle.semantics.proofs.Layers.{namer_inside, negates_names}
use Rattle.semantics.proofs.Walks.{Walk, stay, by_name, by_denial, far, far_walk, walk_far}

-- a condition that names c follows it, and so does one that names a follower
pub follows_directly : {page : Page} {a c : ℕ} → names page a c ≡ true → Follows page a c
follows_directly {c = c} e = record { next = c; step = e; negated = false; chain = empty }

pub follows_through : {page : Page} {a b c : ℕ} → names page a b ≡ true → Follows page b c → Follows page a c
follows_through {b = b} e r = record { next = b; step = e; negated = r.negated; chain = name r.step r.chain }

-- a condition on a loop through a negation follows itself
loop_begins : {page : Page} {a c : ℕ} {t : Bool} → Chain page a c t → t ≡ true → Follows page a c
loop_begins empty e = absurd (false≢true e)
loop_begins (name {b = b} {t = t} f r) e = record { next = b; step = f; negated = t; chain = r }
loop_begins {page} (negate {a = a} {b = b} {t = t} f r) e = record { next = b; step = negates_names page a b f; negated = t; chain = r }

pub loop_follows : {page : Page} {c : ℕ} → Loops page c → Follows page c c
loop_follows r = loop_begins r refl

-- a set that holds c, and whoever names one of it, holds each condition that a chain leads from to c
pub set_chain : {page : Page} → Proper page → (t : ℕ → Bool) → ((a b : ℕ) → a < page.conditions → b < page.conditions → t b ≡ true → names page a b ≡ true → t a ≡ true)
    → {a c : ℕ} {u : Bool} → t c ≡ true → Chain page a c u → t a ≡ true
set_chain w t g h empty = h
set_chain {page} w t g h (name {a = a} {b = b} e r) = g a b (namer_inside page w a b e) (names_inside page w a b e) (set_chain w t g h r) e
set_chain {page} w t g h (negate {a = a} {b = b} e r) =
    let f = negates_names page a b e in
    g a b (namer_inside page w a b f) (names_inside page w a b f) (set_chain w t g h r) f

-- so, with t for s and c together: where s holds only followers of c, and whoever names one of t, it is the set of the followers, however it was
-- found
pub set_exactly : {page : Page} → Proper page → (c : ℕ) (s t : ℕ → Bool) → ((a : ℕ) → a < page.conditions → s a ≡ true → Follows page a c) → t c ≡ true
    → ((a : ℕ) → a < page.conditions → s a ≡ true → t a ≡ true)
    → ((a b : ℕ) → a < page.conditions → b < page.conditions → t b ≡ true → names page a b ≡ true → s a ≡ true)
    → (a : ℕ) → a < page.conditions → (s a ≡ true) ↔ Follows page a c
set_exactly {page} w c s t only start in-t closed a l = (
  only a l,
  λ f. closed a f.next l (names_inside page w a f.next f.step) (set_chain w t (λ x y m o p q. in-t x m (closed x y m o p q)) start f.chain) f.step,
)

-- the count is one
pub count_one : {page : Page} {c j k : ℕ} → FollowerCount page c j → FollowerCount page c k → j ≡ k
count_one {page} p q =
    sym p.size
    ∙ sum_eq page.conditions (λ a. bit (p.set a)) (λ a. bit (q.set a))
    (λ a l. ap bit (iff_eq (p.set a) (q.set a) (λ e. (q.exactly a l).1 ((p.exactly a l).0 e)) (λ e. (p.exactly a l).1 ((q.exactly a l).0 e))))
    ∙ q.size

-- walks where every naming step counts as one through a negation: those with such a step are the ways of the followers
module _ (page : Page) (w : Proper page) where
  abbrev n : ℕ
  n = page.conditions

  abbrev W : ℕ → ℕ → Bool → Type 0
  W = Walk n (names page) (names page)

  chain_walk : {a c : ℕ} {t : Bool} → c < n → Chain page a c t → W a c false
  chain_walk l empty = stay l
  chain_walk l (name {a = a} {b = b} e r) = by_name (namer_inside page w a b e) e (chain_walk l r)
  chain_walk l (negate {a = a} {b = b} e r) = let f = negates_names page a b e in by_name (namer_inside page w a b f) f (chain_walk l r)

  walk_chain : {a c : ℕ} {t : Bool} → W a c t → Chain page a c false
  walk_chain (stay l) = empty
  walk_chain (by_name l e r) = name e (walk_chain r)
  walk_chain (by_denial l e r) = name e (walk_chain r)

  walk_begins : {a c : ℕ} {t : Bool} → W a c t → t ≡ true → Follows page a c
  walk_begins (stay l) e = absurd (false≢true e)
  walk_begins (by_name {b = b} l f r) e = record { next = b; step = f; negated = false; chain = walk_chain r }
  walk_begins (by_denial {b = b} l f r) e = record { next = b; step = f; negated = false; chain = walk_chain r }

  -- whether a follows c, computed
  abbrev pub follows? : ℕ → ℕ → Bool
  follows? c a = far n (names page) (names page) a c

  module _ (c : ℕ) (l : c < n) where
    pub follows_iff : (a : ℕ) → a < n → (follows? c a ≡ true) ↔ Follows page a c
    follows_iff a m = (
      λ e. walk_begins (far_walk n (names page) (names page) a c l e) refl,
      λ f. walk_far n (names page) (names page) a m (by_denial m f.step (chain_walk l f.chain)),
    )

    pub followers_count : FollowerCount page c (count n (follows? c))
    followers_count = record { set = follows? c; exactly = follows_iff; size = refl }

-- the call has one answer
never : {k : ℕ} → some k ≡ none → ⊥
never e = let z : ◌≡◌ {A = ℕ} 0 1 = cc in omega arith

-- no cause holds: the page area is sound, and c a condition
pub followers_asked : (a : List ℕ) (c : ℕ) → first_of (followers_causes a c) ≡ none → (sound a ≡ true) × (c < (page_of a).conditions)
followers_asked a c e = go (sound a) (leb (page_of a).conditions c) refl refl e
  where
    go : (t u : Bool) → sound a ≡ t → leb (page_of a).conditions c ≡ u → first_of (cause (not t) 10 ∷ cause u 15 ∷ []) ≡ none → (sound a ≡ true) × (c < (page_of a).conditions)
    go true false p q r = (p, leb-false _ _ q)
    go true true p q r = absurd (never r)
    go false u p q r = absurd (never r)

as_exists : (o : Option ℕ) (page : Page) (c : ℕ) → (o ≡ none → Proper page × (c < page.conditions)) → (r : FollowersAnswer) × FollowersAs o r page c
as_exists (some k) page c w = (refused_followers k, refl)
as_exists none page c w = let h = w refl in (followed_by _, followers_count page h.0 c h.1)

pub followers_exist : (a : List ℕ) (c : ℕ) → (r : FollowersAnswer) × FollowersOf r a c
unfolding FollowersOf
followers_exist a c =
    as_exists (first_of (followers_causes a c)) (page_of a) c (λ e. let h = followers_asked a c e in (sound_proper a h.0, h.1))

one_as : (o : Option ℕ) (r q : FollowersAnswer) (page : Page) (c : ℕ) → FollowersAs o r page c → FollowersAs o q page c → r ≡ q
one_as (some k) r q page c h g = h ∙ sym g
one_as none (refused_followers k) q page c h g = absurd h
one_as none (followed_by j) (refused_followers k) page c h g = absurd g
one_as none (followed_by j) (followed_by k) page c h g = ap followed_by (count_one h g)

pub followers_one : (a : List ℕ) (c : ℕ) (r q : FollowersAnswer) → FollowersOf r a c → FollowersOf q a c → r ≡ q
unfolding FollowersOf
followers_one a c r q h g = one_as (first_of (followers_causes a c)) r q (page_of a) c h g
