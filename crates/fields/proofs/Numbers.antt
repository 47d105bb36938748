-- The number that is the field at a place, by the classes of its bytes. Assumes nothing.
use Rattle.std.proofs.Common.{◌≡◌, ℕ, zero, suc, ◌+◌, ◌-◌, ◌*◌, ◌%◌, ◌<◌, ◌≤◌, Bool, true, false, cond, not, ◌&&◌, ◌||◌, eqb, leb, ◌⊎◌, List, [], ◌∷◌, length, get_or, sym, refl, ap, ◌∙◌, inl, inr, ⊎_elim, arith, eq-eqb, ne_eqb, eqb-true, le-leb}
use native.Mathlib.Decide.{ℕ_discrete, dec_lt}
use borrow.Author.Tests.{lt-leb}
use Rattle.semantics.proofs.TestLists.{fails}
use Rattle.semantics.proofs.TextNumbers.{digit_range, one_digit, two_digits, three_digits}
use Rattle.semantics.specs.Text.{field, is_digit, all_digits, is_number, number_in}
use Rattle.fields.specs.Cursor.{field_at, class_of, DigitIs, Numbered}
use Rattle.fields.proofs.Places.{comma_fields, newline_fields, other_fields}

pub and_false : (t : Bool) {u : Bool} → u ≡ false → (t && u) ≡ false
and_false true e = e
and_false false e = refl

-- What `digit` answers, by the difference r of a byte to 48, which wraps.
module _ (b r : ℕ) (w : b < 256) (e : r ≡ (b + 4294967248) % 4294967296) where
  pub a_digit : r ≤ 9 → DigitIs b r
  unfolding class_of
  a_digit h =
      let l : 48 ≤ b = omega arith in
      let m : b ≤ 57 = omega arith in
      record { is = rw (le-leb 48 b l, le-leb b 57 m) (omega arith); most = h }

  not_digit : 9 < r → is_digit b ≡ false
  not_digit h = go (dec_lt b 48)
    where
      go : Dec (b < 48) → is_digit b ≡ false
      go (yes k) = rw (lt-leb 48 b k)
      go (no k) =
          let m : 57 < b = omega arith in
          rw (le-leb 48 b (omega arith), lt-leb b 57 m)

  pub other_byte : 9 < r → 9 < class_of b
  unfolding class_of
  other_byte h = rw (not_digit h) (go (eqb b 44 || eqb b 10))
    where
      go : (t : Bool) → 9 < cond t 10 11
      go true = omega arith
      go false = omega arith

-- What a class says of its byte.
pub class_digit : (b : ℕ) → class_of b ≤ 9 → is_digit b ≡ true
unfolding class_of
class_digit b = go (is_digit b) (eqb b 44 || eqb b 10)
  where
    go : (t u : Bool) → cond t (b - 48) (cond u 10 11) ≤ 9 → t ≡ true
    go true u h = refl
    go false true h = absurd (omega arith)
    go false false h = absurd (omega arith)

pub class_value : (b : ℕ) → is_digit b ≡ true → class_of b ≡ b - 48
unfolding class_of
class_value b e = rw e

class_other : (b : ℕ) → 9 < class_of b → is_digit b ≡ false
unfolding class_of
class_other b = go (is_digit b) refl (eqb b 44 || eqb b 10)
  where
    go : (t : Bool) → is_digit b ≡ t → (u : Bool) → 9 < cond t (b - 48) (cond u 10 11) → t ≡ false
    go true e u h = let l = digit_range b e in absurd (omega arith)
    go false e u h = refl

pub class_end : (b : ℕ) → class_of b ≡ 10 → (b ≡ 44) ⊎ (b ≡ 10)
unfolding class_of
class_end b = go (is_digit b) refl (eqb b 44) (eqb b 10) refl refl
  where
    go : (t : Bool) → is_digit b ≡ t → (u v : Bool) → eqb b 44 ≡ u → eqb b 10 ≡ v → cond t (b - 48) (cond (u || v) 10 11) ≡ 10 → (b ≡ 44) ⊎ (b ≡ 10)
    go true e u v p q h = let l = digit_range b e in absurd (omega arith)
    go false e true v p q h = inl (eqb-true b 44 p)
    go false e false true p q h = inr (eqb-true b 10 q)
    go false e false false p q h = absurd (omega arith)

pub class_most : (b : ℕ) → (class_of b ≡ 10 → ⊥) → (class_of b ≡ 11 → ⊥) → class_of b ≤ 9
unfolding class_of
class_most b = go (is_digit b) refl (eqb b 44 || eqb b 10)
  where
    go : (t : Bool) → is_digit b ≡ t → (u : Bool) → (cond t (b - 48) (cond u 10 11) ≡ 10 → ⊥) → (cond t (b - 48) (cond u 10 11) ≡ 11 → ⊥) → cond t (b - 48) (cond u 10 11) ≤ 9
    go true e u m n = let l = digit_range b e in omega arith
    go false e true m n = absurd (m refl)
    go false e false m n = absurd (n refl)

-- The field at a place, byte by byte.
pub field_end : (s : List ℕ) (i : ℕ) → class_of (get_or s i 10) ≡ 10 → field_at s i ≡ []
field_end s i e =
    ⊎_elim (λ (h : get_or s i 10 ≡ 44). ap (λ (fs : List (List ℕ)). field fs 0) (comma_fields s i h))
    (λ (h : get_or s i 10 ≡ 10). ap (λ (fs : List (List ℕ)). field fs 0) (newline_fields s i h))
    (class_end (get_or s i 10) e)

pub field_more : (s : List ℕ) (i j : ℕ) → j ≡ i + 1 → (class_of (get_or s i 10) ≡ 10 → ⊥) → field_at s i ≡ get_or s i 10 ∷ field_at s j
unfolding class_of
field_more s i j q n =
    rw q
    (ap (λ (fs : List (List ℕ)). field fs 0)
    (other_fields s i (λ (e : get_or s i 10 ≡ 10). n (ap class_of e)) (λ (e : get_or s i 10 ≡ 44). n (ap class_of e))))

-- Which lists of bytes are numbers.
not_digits : (f : List ℕ) (k : ℕ) → k < length f → is_digit (get_or f k 0) ≡ false → all_digits f ≡ false
not_digits [] k h e = absurd (omega arith)
not_digits (b ∷ f) zero h e = rw e
not_digits (b ∷ f) (suc k) h e = and_false (is_digit b) (not_digits f k (omega arith) e)

no_digit : (f : List ℕ) (k : ℕ) → k < length f → is_digit (get_or f k 0) ≡ false → is_number f ≡ false
unfolding is_number
no_digit f k h e =
    fails (leb 1 (length f) ∷ leb (length f) 3 ∷ all_digits f ∷ (not (eqb (get_or f 0 0) 48) || eqb (length f) 1) ∷ []) 2 (not_digits f k h e)

not_long : (f : List ℕ) → 3 < length f → is_number f ≡ false
unfolding is_number
not_long f h =
    fails (leb 1 (length f) ∷ leb (length f) 3 ∷ all_digits f ∷ (not (eqb (get_or f 0 0) 48) || eqb (length f) 1) ∷ []) 1 (lt-leb (length f) 3 h)

not_empty : is_number [] ≡ false
unfolding is_number
not_empty = refl

not_leading : (b : ℕ) (f : List ℕ) → b ≡ 48 → 0 < length f → is_number (b ∷ f) ≡ false
unfolding is_number
not_leading b f e h =
    fails (leb 1 (length (b ∷ f)) ∷ leb (length (b ∷ f)) 3 ∷ all_digits (b ∷ f) ∷ (not (eqb b 48) || eqb (length (b ∷ f)) 1) ∷ []) 3
    (rw (eq-eqb b 48 e, ne_eqb (length (b ∷ f)) 1 (λ z. omega arith)))

value_one : (a : ℕ) → a - 48 ≡ number_in (a ∷ [])
unfolding number_in
value_one a = omega arith

value_two : (a b : ℕ) → number_in (a ∷ b ∷ []) ≡ (a - 48) * 10 + (b - 48)
unfolding number_in
value_two a b = omega arith

value_three : (a b d : ℕ) → number_in (a ∷ b ∷ d ∷ []) ≡ ((a - 48) * 10 + (b - 48)) * 10 + (d - 48)
unfolding number_in
value_three a b d = omega arith

-- The field at a place is a number, or it is none, by its bytes.
no_number : (s : List ℕ) (at : ℕ) (f : List ℕ) → field_at s at ≡ f → is_number f ≡ false → is_number (field_at s at) ≡ false
no_number s at f e n = rw e n

a_number : (s : List ℕ) (at : ℕ) (f : List ℕ) (v e : ℕ) → field_at s at ≡ f → is_number f ≡ true → v ≡ number_in f → e ≡ at + length f → Numbered s at v e
a_number s at f v e q n p l = record { number = rw q n; value = rw q (sym p); end = rw q (sym l) }

-- By the classes A, B, D, E of the bytes at a place and after it.
module _ (s : List ℕ) (at A : ℕ) (a : A ≡ class_of (get_or s at 10)) where
  pub none_first : 9 < A → is_number (field_at s at) ≡ false
  none_first h = go (ℕ_discrete A 10)
    where
      go : Dec (A ≡ 10) → is_number (field_at s at) ≡ false
      go (yes e) = no_number s at [] (field_end s at (sym a ∙ e)) not_empty
      go (no n) =
          no_number s at (get_or s at 10 ∷ field_at s (at + 1)) (field_more s at (at + 1) refl (λ e. n (a ∙ e)))
          (no_digit (get_or s at 10 ∷ field_at s (at + 1)) 0 (omega arith) (class_other (get_or s at 10) (rw (← a) h)))

  module _ (B : ℕ) (b : B ≡ class_of (get_or s (at + 1) 10)) where
    pub one_number : A ≤ 9 → B ≡ 10 → Numbered s at A (at + 1)
    one_number h e =
        let p = class_digit (get_or s at 10) (rw (← a) h) in
        a_number s at (get_or s at 10 ∷ []) A (at + 1)
        (field_more s at (at + 1) refl (λ z. omega arith) ∙ ap (λ (f : List ℕ). get_or s at 10 ∷ f) (field_end s (at + 1) (sym b ∙ e)))
        (one_digit (get_or s at 10) p)
        (a ∙ class_value (get_or s at 10) p ∙ value_one (get_or s at 10))
        refl

    -- the field has two bytes or more
    two_bytes : A ≤ 9 → (B ≡ 10 → ⊥) → field_at s at ≡ get_or s at 10 ∷ get_or s (at + 1) 10 ∷ field_at s (at + 2)
    two_bytes h n =
        field_more s at (at + 1) refl (λ z. omega arith)
        ∙ ap (λ (f : List ℕ). get_or s at 10 ∷ f) (field_more s (at + 1) (at + 2) (omega arith) (λ z. n (b ∙ z)))

    pub none_second : A ≤ 9 → B ≡ 11 → is_number (field_at s at) ≡ false
    none_second h e =
        let f = get_or s at 10 ∷ get_or s (at + 1) 10 ∷ field_at s (at + 2) in
        no_number s at f (two_bytes h (λ z. omega arith)) (no_digit f 1 (omega arith) (class_other (get_or s (at + 1) 10) (rw (← b) (omega arith))))

    pub none_leading : A ≡ 0 → (B ≡ 10 → ⊥) → is_number (field_at s at) ≡ false
    none_leading h n =
        let p = class_digit (get_or s at 10) (rw (← a) (omega arith)) in
        let l = digit_range (get_or s at 10) p in
        let z : get_or s at 10 ≡ 48 = omega (arith, class_value (get_or s at 10) p) in
        no_number s at (get_or s at 10 ∷ get_or s (at + 1) 10 ∷ field_at s (at + 2)) (two_bytes (omega arith) n)
        (not_leading (get_or s at 10) (get_or s (at + 1) 10 ∷ field_at s (at + 2)) z (omega arith))

    module _ (h : A ≤ 9) (h₀ : A ≡ 0 → ⊥) (n : B ≡ 10 → ⊥) (m : B ≡ 11 → ⊥) (D : ℕ) (d : D ≡ class_of (get_or s (at + 2) 10)) where
      -- the first two bytes are digits, and the first is not `0`
      first_digit : is_digit (get_or s at 10) ≡ true
      first_digit = class_digit (get_or s at 10) (rw (← a) h)

      second_digit : is_digit (get_or s (at + 1) 10) ≡ true
      second_digit = class_digit (get_or s (at + 1) 10) (class_most (get_or s (at + 1) 10) (λ e. n (b ∙ e)) (λ e. m (b ∙ e)))

      not_zero : get_or s at 10 ≡ 48 → ⊥
      not_zero e = h₀ (omega (arith, class_value (get_or s at 10) first_digit))

      pub two_number : D ≡ 10 → Numbered s at (A * 10 + B) (at + 2)
      two_number e =
          a_number s at (get_or s at 10 ∷ get_or s (at + 1) 10 ∷ []) (A * 10 + B) (at + 2)
          (two_bytes h n ∙ ap (λ (f : List ℕ). get_or s at 10 ∷ get_or s (at + 1) 10 ∷ f) (field_end s (at + 2) (sym d ∙ e)))
          (two_digits (get_or s at 10) (get_or s (at + 1) 10) first_digit second_digit not_zero)
          (rw (value_two (get_or s at 10) (get_or s (at + 1) 10))
          (omega (arith, class_value (get_or s at 10) first_digit, class_value (get_or s (at + 1) 10) second_digit)))
          refl

      three_bytes : (D ≡ 10 → ⊥) → field_at s at ≡ get_or s at 10 ∷ get_or s (at + 1) 10 ∷ get_or s (at + 2) 10 ∷ field_at s (at + 3)
      three_bytes k =
          two_bytes h n
          ∙ ap (λ (f : List ℕ). get_or s at 10 ∷ get_or s (at + 1) 10 ∷ f) (field_more s (at + 2) (at + 3) (omega arith) (λ z. k (d ∙ z)))

      pub none_third : D ≡ 11 → is_number (field_at s at) ≡ false
      none_third e =
          let f = get_or s at 10 ∷ get_or s (at + 1) 10 ∷ get_or s (at + 2) 10 ∷ field_at s (at + 3) in
          no_number s at f (three_bytes (λ z. omega arith)) (no_digit f 2 (omega arith) (class_other (get_or s (at + 2) 10) (rw (← d) (omega arith))))

      module _ (k : D ≡ 10 → ⊥) (k₁ : D ≡ 11 → ⊥) (E : ℕ) (e : E ≡ class_of (get_or s (at + 3) 10)) where
        pub three_number : E ≡ 10 → Numbered s at ((A * 10 + B) * 10 + D) (at + 3)
        three_number g =
            let third = class_digit (get_or s (at + 2) 10) (class_most (get_or s (at + 2) 10) (λ z. k (d ∙ z)) (λ z. k₁ (d ∙ z))) in
            a_number s at (get_or s at 10 ∷ get_or s (at + 1) 10 ∷ get_or s (at + 2) 10 ∷ []) ((A * 10 + B) * 10 + D) (at + 3)
            (three_bytes k ∙ ap (λ (f : List ℕ). get_or s at 10 ∷ get_or s (at + 1) 10 ∷ get_or s (at + 2) 10 ∷ f) (field_end s (at + 3) (sym e ∙ g)))
            (three_digits (get_or s at 10) (get_or s (at + 1) 10) (get_or s (at + 2) 10) first_digit second_digit third not_zero)
            (rw (value_three (get_or s at 10) (get_or s (at + 1) 10) (get_or s (at + 2) 10))
            (omega (arith, class_value (get_or s at 10) first_digit, class_value (get_or s (at + 1) 10) second_digit, class_value (get_or s (at + 2) 10) third)))
            refl

        pub none_longer : (E ≡ 10 → ⊥) → is_number (field_at s at) ≡ false
        none_longer g =
            no_number s at (get_or s at 10 ∷ get_or s (at + 1) 10 ∷ get_or s (at + 2) 10 ∷ get_or s (at + 3) 10 ∷ field_at s (at + 4))
            (three_bytes k ∙ ap (λ (f : List ℕ). get_or s at 10 ∷ get_or s (at + 1) 10 ∷ get_or s (at + 2) 10 ∷ f) (field_more s (at + 3) (at + 4) (omega arith) (λ z. g (e ∙ z))))
            (not_long (get_or s at 10 ∷ get_or s (at + 1) 10 ∷ get_or s (at + 2) 10 ∷ get_or s (at + 3) 10 ∷ field_at s (at + 4)) (omega arith))
