-- Where a pass adds nothing, the row is that of the followers, and its marks are their count. Assumes nothing.
use mathlib.Core.Path.{◌≡◌, refl, sym, ◌∙◌}
use mathlib.Core.Bool.{true, false, or-true}
use mathlib.Core.List.{List}
use Prim.Native.Nat.{ℕ, ◌≤◌, ◌<◌}
use native.Mathlib.Decide.{dec_le}
use native.Mathlib.Omega.{arith}
use lib.ListN.{get_or-eq_default}
use borrow.Author.Tests.{eq-eqb, le-leb, lt-leb}
use Rattle.fixpoint.specs.Sum.{count}
use Rattle.semantics.specs.Area.{sound, page_of, conditions_of}
use Rattle.semantics.specs.Followers.{Follows, FollowerCount, refused_followers, followed_by, FollowersOf}
use Rattle.semantics.specs.Page.{Page}
use Rattle.semantics.proofs.Followers.{set_exactly}
use Rattle.semantics.proofs.Layers.{namer_inside}
use Rattle.semantics.proofs.Proper.{Proper}
use Rattle.semantics.proofs.Soundness.{sound_proper}
use Rattle.bits.specs.Words.{has}
use Rattle.bits.proofs.Sets.{word_none}
use Rattle.std.proofs.lemmas.Bool.{false_from_ne_true}
use Rattle.reach.proofs.Visiting.{count_past}
use Rattle.followers.specs.Rows.{Seeks, PageFollowed, FollowerRow}

module _ (page : Page) (w : Proper page) (c : ℕ) where
  -- who follows is a condition
  follower_inside : {a : ℕ} → Follows page a c → a < page.conditions
  follower_inside {a} f = namer_inside page w a f.next f.step

  pub settled_row : c < page.conditions → {seen row seen' row' : List ℕ} {new : ℕ} → Seeks page c seen row → PageFollowed page seen row seen' row' new → new ≡ 0 → FollowerRow page c row'
  settled_row l {seen' = seen'} {row' = row'} h p e =
      let g = p.seeks c h in
      record {
        row_size = p.covers.row_size;
        exactly = λ a m. (
          g.only a m,
          λ f. (set_exactly w c (has row') (has seen') (λ x o. g.only x (small o)) (g.seen_is c (small l) ∙ rw (eq-eqb c c refl, or-true))
              (λ x o. p.covers.covers x (small o)) (λ x b o q. p.settled e x b (small q)) a (follower_inside f)).1 f,
        );
      }
    where
      small : {x : ℕ} → x < page.conditions → x < 512
      small o = omega (arith, w.conditions_most)

  -- the marks of the row are the count
  past_none : {row : List ℕ} → FollowerRow page c row → (k : ℕ) → page.conditions ≤ k → has row k ≡ false
  past_none {row} h k l =
      elim (dec_le 512 k) [
        | yes m ↦ word_none row k (get_or-eq_default row 0 (omega (arith, h.row_size)))
        | no m ↦ false_from_ne_true (has row k) (λ p. let i = follower_inside ((h.exactly k (omega arith)).0 p) in omega arith)
      ]

  pub row_count : {row : List ℕ} → FollowerRow page c row → FollowerCount page c (count 512 (has row))
  row_count {row} h =
      record {
        set = has row;
        exactly = λ a l. h.exactly a (omega (arith, w.conditions_most));
        size = sym (count_past page.conditions 512 (has row) w.conditions_most (past_none h));
      }

-- the answer of the call, cause by cause
module _ (a : List ℕ) (c : ℕ) where
  pub answer_10 : sound a ≡ false → FollowersOf (refused_followers 10) a c
  unfolding FollowersOf
  answer_10 e = rw e

  pub answer_15 : sound a ≡ true → conditions_of a ≤ c → FollowersOf (refused_followers 15) a c
  unfolding FollowersOf page_of
  answer_15 e l = rw (e, le-leb (conditions_of a) c l)

  pub answer_count : sound a ≡ true → c < conditions_of a → {row : List ℕ} {marks : ℕ} → FollowerRow (page_of a) c row → marks ≡ count 512 (has row) → FollowersOf (followed_by marks) a c
  unfolding FollowersOf page_of
  answer_count e l h q = rw (e, lt-leb (conditions_of a) c l, q) (row_count (page_of a) (sound_proper a e) c h)
