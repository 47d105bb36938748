-- The worked rows of the count of followers hold: one test over the list, computed. Assumes nothing.
use mathlib.Core.Path.{◌≡◌, refl, subst}
use mathlib.Core.Bool.{Bool, true, ◌&&◌}
use mathlib.Core.List.{List, [], ◌∷◌}
use mathlib.Core.Option.{none, some}
use lib.Dec.{eqb, ltb}
use borrow.Author.Tests.{eqb-true, ltb-true}
use Rattle.fixpoint.specs.KnowledgeOrder.{bottom}
use Rattle.fixpoint.specs.LeastFixpoint.{iter, lfp}
use Rattle.fixpoint.specs.Sum.{sum, count}
use Rattle.semantics.specs.Area.{kind, span, lines_of, page_of, every, all_under, lines_ok, sound_to, sound, defaults_ok}
use Rattle.semantics.specs.Call.{first_of}
use Rattle.semantics.specs.Followers.{refused_followers, followed_by, FollowerCount, followers_causes, FollowersOf}
use Rattle.semantics.specs.Page.{mentions, lines_name, names, defaults}
use Rattle.semantics.specs.Table.{all_below}
use Rattle.semantics.proofs.Same.{same_cause, same_cause_lem}
use Rattle.semantics.proofs.Soundness.{sound_proper, both_true, Every, every_true}
use Rattle.semantics.proofs.Walks.{largest, spread, far}
use Rattle.semantics.proofs.Followers.{followers_count}
use Rattle.semantics.proofs.LayersRows.{area_back, area_self, area_two, area_three, area_plain}
use Rattle.semantics.proofs.FollowersRows.{FollowersRow, asks, FollowersHold, followers_rows}

abbrev tests : FollowersRow → List Bool
tests (asks a c (refused_followers k)) = same_cause (first_of (followers_causes a c)) (some k) ∷ []
tests (asks a c (followed_by k)) =
    let page = page_of a in
    same_cause (first_of (followers_causes a c)) none
    ∷ sound a
    ∷ ltb c page.conditions
    ∷ eqb (count page.conditions (λ x. far page.conditions (names page) (names page) x c)) k
    ∷ []

passed : (r : FollowersRow) (rs : List FollowersRow) → Every (tests r) → FollowersHold rs → FollowersHold (r ∷ rs)
unfolding FollowersOf
passed (asks a c (refused_followers k)) rs z more = (rw (same_cause_lem _ _ z.0), more)
passed (asks a c (followed_by k)) rs z more =
    let p = page_of a in
    let h = followers_count p (sound_proper a z.1.0) c (ltb-true c p.conditions z.1.1.0) in
    (rw (same_cause_lem _ _ z.0) (subst (FollowerCount p c) (eqb-true _ _ z.1.1.1.0) h), more)

test : List FollowersRow → Bool
test [] = true
test (r ∷ rs) = every (tests r) && test rs

law : (rs : List FollowersRow) → test rs ≡ true → FollowersHold rs
unfolding test
law [] e = tt
law (r ∷ rs) e = let h = both_true (every (tests r)) (test rs) e in passed r rs (every_true (tests r) h.0) (law rs h.1)

computed : test followers_rows ≡ true
unfolding followers_rows area_back area_self area_two area_three area_plain test same_cause sound_to kind span lines_ok all_under page_of lines_of mentions lines_name far spread lfp iter bottom largest sum defaults_ok defaults all_below
computed = refl

pub followers_bench : FollowersHold followers_rows
followers_bench = law followers_rows computed
