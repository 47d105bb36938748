-- An end of the body value is the largest over the F and R lines of the condition, in any order. Assumes nothing.
use mathlib.Core.Path.{◌≡◌, refl, sym, ◌∙◌, ap}
use mathlib.Core.Logic.{⊎_elim}
use mathlib.Core.Bool.{true}
use mathlib.Core.List.{List, [], ◌∷◌}
use Prim.Native.Nat.{ℕ, zero, suc, ◌-◌, ◌≤◌, ◌<◌, max}
use native.Mathlib.Decide.{ℕ_discrete}
use native.Mathlib.Omega.{arith}
use lib.ListN.{drop}
use Rattle.fixpoint.specs.Interval.{Interval, Assign}
use Rattle.semantics.specs.Area.{line_at, page_of, top_of, count_of}
use Rattle.semantics.specs.Body.{line_body, bodies, bodyless, largest_of, T}
use Rattle.semantics.specs.Grade.{End, lower, upper, fold_from, largest}
use Rattle.semantics.specs.Page.{Line}
use Rattle.page.specs.Places.{place_of}
use Rattle.page.proofs.Scanning.{lines_left, lines_first, lines_none}
use Rattle.page.proofs.LineNumbers.{lines_from, shape}
use Rattle.value.specs.Table.{end_of}
use Rattle.page.specs.Solvable.{solvable}

end_largest : (e : End) (p q : Interval) → end_of e (largest p q) ≡ max (end_of e p) (end_of e q)
end_largest lower p q = refl
end_largest upper p q = refl

nil_not_one : {p : Interval} → ◌≡◌ {A = List Interval} [] (p ∷ []) → ⊥
nil_not_one d = let z : ◌≡◌ {A = ℕ} 0 1 = cc in omega arith

module _ (e : End) (a : List ℕ) (ok : solvable a ≡ true) (I : Assign) (c : ℕ) where
  abbrev line : ℕ → Line
  line k = line_at (drop (place_of a k) a)

  -- the end of the largest of p and what the lines from number k on add
  abbrev from : Interval → ℕ → ℕ
  from p k = end_of e (fold_from largest p (bodies (top_of a) I c (lines_left a (place_of a k) k)))

  from_none : (p : Interval) (k : ℕ) → count_of a ≤ k → from p k ≡ end_of e p
  unfolding bodies fold_from
  from_none p k l = rw (lines_none a (place_of a k) k l)

  from_nothing : (p : Interval) (k : ℕ) → k < count_of a → line_body (top_of a) I c (line k) ≡ [] → from p k ≡ from p (suc k)
  unfolding bodies
  from_nothing p k l h = rw (lines_from a ok k l, h)

  from_one : (p q : Interval) (k : ℕ) → k < count_of a → line_body (top_of a) I c (line k) ≡ q ∷ [] → from p k ≡ from (largest p q) (suc k)
  unfolding bodies fold_from
  from_one p q k l h = rw (lines_from a ok k l, h)

  -- a number that no line exceeds
  abbrev Bound : ℕ → Type 0
  Bound b = (j : ℕ) → j < count_of a → (p : Interval) → line_body (top_of a) I c (line j) ≡ p ∷ [] → end_of e p ≤ b

  from_most : (b : ℕ) → Bound b → (m k : ℕ) → count_of a - k ≡ m → (p : Interval) → end_of e p ≤ b → from p k ≤ b
  from_most b h zero k d p l = omega (arith, from_none p k (omega arith))
  from_most b h (suc m) k d p l =
      ⊎_elim (λ z. omega (arith, from_nothing p k (omega arith) z, from_most b h m (suc k) (omega arith) p l))
      (λ z. omega (
        arith,
        from_one p z.0 k (omega arith) z.1,
        from_most b h m (suc k) (omega arith) (largest p z.0) (omega (arith, end_largest e p z.0, h k (omega arith) z.0 z.1)),
      ))
      (shape (top_of a) I c (line k))

  -- the largest is no less than what it begins with, nor than what a line adds
  from_least : (m k : ℕ) → count_of a - k ≡ m → (p : Interval) → end_of e p ≤ from p k
  from_least zero k d p = omega (arith, from_none p k (omega arith))
  from_least (suc m) k d p =
      ⊎_elim (λ z. omega (arith, from_nothing p k (omega arith) z, from_least m (suc k) (omega arith) p))
      (λ z. omega (arith, from_one p z.0 k (omega arith) z.1, from_least m (suc k) (omega arith) (largest p z.0), end_largest e p z.0))
      (shape (top_of a) I c (line k))

  from_has : (m k : ℕ) → count_of a - k ≡ m → (p : Interval) (j : ℕ) → k ≤ j → j < count_of a → (q : Interval) → line_body (top_of a) I c (line j) ≡ q ∷ [] → end_of e q ≤ from p k
  from_has zero k d p j l u q h = absurd (omega arith)
  from_has (suc m) k d p j l u q h =
      elim (ℕ_discrete j k) [
        | yes z ↦ let w : line_body (top_of a) I c (line k) ≡ q ∷ [] = rw z at h in
            omega (arith, from_one p q k (omega arith) w, from_least m (suc k) (omega arith) (largest p q), end_largest e p q)
        | no z ↦ ⊎_elim (λ y. omega (arith, from_nothing p k (omega arith) y, from_has m (suc k) (omega arith) p j (omega arith) u q h))
            (λ y. omega (arith, from_one p y.0 k (omega arith) y.1, from_has m (suc k) (omega arith) (largest p y.0) j (omega arith) u q h))
            (shape (top_of a) I c (line k))
      ]

  -- the end of the largest of what the lines from number k on add, or of `bodyless`
  abbrev given : ℕ → ℕ
  given k = end_of e (largest_of (bodyless (page_of a) c) (bodies (top_of a) I c (lines_left a (place_of a k) k)))

  given_none : (k : ℕ) → count_of a ≤ k → given k ≡ end_of e (bodyless (page_of a) c)
  unfolding bodies largest_of
  given_none k l = rw (lines_none a (place_of a k) k l)

  given_nothing : (k : ℕ) → k < count_of a → line_body (top_of a) I c (line k) ≡ [] → given k ≡ given (suc k)
  unfolding bodies
  given_nothing k l h = rw (lines_from a ok k l, h)

  given_one : (q : Interval) (k : ℕ) → k < count_of a → line_body (top_of a) I c (line k) ≡ q ∷ [] → given k ≡ from q (suc k)
  unfolding bodies largest_of
  given_one q k l h = rw (lines_from a ok k l, h)

  abbrev Nothing : ℕ → Type 0
  Nothing k = (j : ℕ) → k ≤ j → j < count_of a → line_body (top_of a) I c (line j) ≡ []

  given_most : (b : ℕ) → Bound b → (m k : ℕ) → count_of a - k ≡ m → (Nothing k → end_of e (bodyless (page_of a) c) ≤ b) → given k ≤ b
  given_most b h zero k d o = omega (arith, given_none k (omega arith), o (λ j l u. absurd (omega arith)))
  given_most b h (suc m) k d o =
      ⊎_elim (λ z. omega (arith, given_nothing k (omega arith) z, given_most b h m (suc k) (omega arith) (λ g. o (λ j l u. at_or_past z g j l u))))
      (λ z. omega (arith, given_one z.0 k (omega arith) z.1, from_most b h m (suc k) (omega arith) z.0 (h k (omega arith) z.0 z.1)))
      (shape (top_of a) I c (line k))
    where
      at_or_past : line_body (top_of a) I c (line k) ≡ [] → Nothing (suc k) → Nothing k
      at_or_past z g j l u =
          elim (ℕ_discrete j k) [
            | yes y ↦ rw y z
            | no y ↦ g j (omega arith) u
          ]

  given_has : (m k : ℕ) → count_of a - k ≡ m → (j : ℕ) → k ≤ j → j < count_of a → (q : Interval) → line_body (top_of a) I c (line j) ≡ q ∷ [] → end_of e q ≤ given k
  given_has zero k d j l u q h = absurd (omega arith)
  given_has (suc m) k d j l u q h =
      elim (ℕ_discrete j k) [
        | yes z ↦ let w : line_body (top_of a) I c (line k) ≡ q ∷ [] = rw z at h in
            omega (arith, given_one q k (omega arith) w, from_least m (suc k) (omega arith) q)
        | no z ↦ ⊎_elim (λ y. omega (arith, given_nothing k (omega arith) y, given_has m (suc k) (omega arith) j (omega arith) u q h))
            (λ y. omega (arith, given_one y.0 k (omega arith) y.1, from_has m (suc k) (omega arith) y.0 j (omega arith) u q h))
            (shape (top_of a) I c (line k))
      ]

  body_given : end_of e (T (page_of a) I c) ≡ given 0
  unfolding T page_of place_of
  body_given = ap (λ (ls : List Line). end_of e (largest_of (bodyless (page_of a) c) (bodies (top_of a) I c ls))) (sym (lines_first a))

  -- no end exceeds a number that no line exceeds, nor `bodyless` if no line adds anything
  pub body_most : (b : ℕ) → Bound b → (((j : ℕ) → j < count_of a → line_body (top_of a) I c (line j) ≡ []) → end_of e (bodyless (page_of a) c) ≤ b) → end_of e (T (page_of a) I c) ≤ b
  body_most b h o = omega (arith, body_given, given_most b h (count_of a) 0 (omega arith) (λ g. o (λ j l. g j (omega arith) l)))

  pub body_has : (j : ℕ) → j < count_of a → (p : Interval) → line_body (top_of a) I c (line j) ≡ p ∷ [] → end_of e p ≤ end_of e (T (page_of a) I c)
  body_has j l p h = omega (arith, body_given, given_has (count_of a) 0 (omega arith) j (omega arith) l p h)

  -- of a condition that has a line
  pub body_some : (b : ℕ) → Bound b → (j : ℕ) → j < count_of a → (p : Interval) → line_body (top_of a) I c (line j) ≡ p ∷ [] → end_of e (T (page_of a) I c) ≤ b
  body_some b h j l p d = body_most b h (λ g. absurd (nil_not_one (sym (g j l) ∙ d)))

-- a condition without F and R lines has `bodyless`
module _ (a : List ℕ) (ok : solvable a ≡ true) (I : Assign) (c : ℕ) (none : (j : ℕ) → j < count_of a → line_body (top_of a) I c (line_at (drop (place_of a j) a)) ≡ []) where
  none_from : (m k : ℕ) → count_of a - k ≡ m → bodies (top_of a) I c (lines_left a (place_of a k) k) ≡ []
  unfolding bodies
  none_from zero k d = rw (lines_none a (place_of a k) k (omega arith))
  none_from (suc m) k d = rw (lines_from a ok k (omega arith), none k (omega arith)) (none_from m (suc k) (omega arith))

  pub body_none : T (page_of a) I c ≡ bodyless (page_of a) c
  unfolding T page_of place_of largest_of
  body_none =
      ap (λ (ls : List Line). largest_of (bodyless (page_of a) c) (bodies (top_of a) I c ls)) (sym (lines_first a))
      ∙ ap (largest_of (bodyless (page_of a) c)) (none_from (count_of a) 0 (omega arith))
