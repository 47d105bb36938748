-- Numbers, literals and letters: what is written is read, and what is read was written so. Assumes nothing.
use mathlib.Core.Path.{◌≡◌, refl, ◌∙◌, ap, ap₂}
use mathlib.Core.Bool.{Bool, true, false, not, cond, ◌&&◌, ◌||◌}
use mathlib.Core.List.{List, [], ◌∷◌, ◌++◌}
use Prim.Native.Nat.{ℕ, zero, suc, ◌+◌, ◌*◌, ◌-◌, ◌/◌, ◌%◌, ◌≤◌, ◌<◌}
use native.Mathlib.Omega.{arith}
use native.Mathlib.Decide.{dec_lt}
use lib.Dec.{eqb, ltb, leb}
use lib.ListN.{length, get_or, length-append}
use borrow.Author.Tests.{ne_eqb, eqb-false, not-true, le-leb, leb-true, lt-ltb, le-ltb}
use Rattle.semantics.specs.Text.{is_digit, all_digits, is_number, value_from, number_in}
use Rattle.semantics.specs.Fields.{digit, number_within, number_text}
use Rattle.semantics.proofs.Soundness.{both_true, every_true}
use Rattle.semantics.proofs.TextParts.{without}

or_true : (t : Bool) → (t || true) ≡ true
or_true true = refl
or_true false = refl

is_digit_lem : (b : ℕ) → 48 ≤ b → b ≤ 57 → is_digit b ≡ true
is_digit_lem b l h = rw (le-leb 48 b l, le-leb b 57 h)

pub digit_range : (b : ℕ) → is_digit b ≡ true → (48 ≤ b) × (b ≤ 57)
digit_range b e = let h = both_true (leb 48 b) (leb b 57) e in (leb-true 48 b h.0, leb-true b 57 h.1)

-- digits that are a number
pub one_digit : (a : ℕ) → is_digit a ≡ true → is_number (a ∷ []) ≡ true
unfolding is_number
one_digit a p = rw (p, or_true)

pub two_digits : (a b : ℕ) → is_digit a ≡ true → is_digit b ≡ true → (a ≡ 48 → ⊥) → is_number (a ∷ b ∷ []) ≡ true
unfolding is_number
two_digits a b p q n = rw (p, q, ne_eqb a 48 n)

pub three_digits : (a b d : ℕ) → is_digit a ≡ true → is_digit b ≡ true → is_digit d ≡ true → (a ≡ 48 → ⊥) → is_number (a ∷ b ∷ d ∷ []) ≡ true
unfolding is_number
three_digits a b d p q r n = rw (p, q, r, ne_eqb a 48 n)

-- Any number of steps that is enough gives the same digits.
steps_enough : (j k n : ℕ) → n ≤ j → n ≤ k → number_within j n ≡ number_within k n
unfolding number_within
steps_enough zero zero n p q = refl
steps_enough zero (suc k) n p q = rw (lt-ltb n 10 (omega arith))
steps_enough (suc j) zero n p q = rw (lt-ltb n 10 (omega arith))
steps_enough (suc j) (suc k) n p q =
    elim (dec_lt n 10) [
      | yes h ↦ rw (lt-ltb n 10 h)
      | no h ↦ ap (λ (ds : List ℕ). cond (ltb n 10) (digit n ∷ []) (ds ++ (digit (n % 10) ∷ []))) (steps_enough j k (n / 10) (omega arith) (omega arith))
    ]

-- below 10 there is one digit; else the digits of a tenth, and the last one
pub number_one : (n : ℕ) → n < 10 → number_text n ≡ digit n ∷ []
unfolding number_text number_within
number_one zero h = refl
number_one (suc k) h = rw (lt-ltb (suc k) 10 h)

pub number_more : (n : ℕ) → 10 ≤ n → number_text n ≡ number_text (n / 10) ++ (digit (n % 10) ∷ [])
unfolding number_text number_within
number_more zero h = absurd (omega arith)
number_more (suc k) h =
    rw (le-ltb (suc k) 10 h) (ap (λ (ds : List ℕ). ds ++ (digit (suc k % 10) ∷ [])) (steps_enough k (suc k / 10) (suc k / 10) (omega arith) (omega arith)))

pub number_length : (n : ℕ) → 10 ≤ n → length (number_text n) ≡ length (number_text (n / 10)) + 1
number_length n h = ap length (number_more n h) ∙ length-append (number_text (n / 10)) (digit (n % 10) ∷ [])

-- read in decimal, the digits give the number again, whatever its size
value_on : (v : ℕ) (f : List ℕ) (d : ℕ) → value_from v (f ++ (d ∷ [])) ≡ 10 * value_from v f + (d - 48)
value_on v [] d = refl
value_on v (x ∷ f) d = value_on (10 * v + (x - 48)) f d

value_within : (k n : ℕ) → n ≤ k → value_from 0 (number_within k n) ≡ n
unfolding number_within
value_within zero n h = omega arith
value_within (suc k) n h =
    elim (dec_lt n 10) [
      | yes l ↦ rw (lt-ltb n 10 l) (omega arith)
      | no l ↦ rw (le-ltb n 10 (omega arith)) (omega (arith, value_on 0 (number_within k (n / 10)) (digit (n % 10)), value_within k (n / 10) (omega arith)))
    ]

pub number_value : (n : ℕ) → number_in (number_text n) ≡ n
unfolding number_in number_text
number_value n = value_within n n (omega arith)

-- ten times as large, a digit more
longer : (k m n : ℕ) → ((i : ℕ) → i < m → length (number_text i) ≤ k) → 1 ≤ k → n < 10 * m → length (number_text n) ≤ k + 1
longer k m n w l h =
    elim (dec_lt n 10) [
      | yes s ↦ omega (arith, ap length (number_one n s))
      | no s ↦ omega (arith, number_length n (omega arith), w (n / 10) (omega arith))
    ]

-- three digits below 1,000, four below 10,000
pub number_short : (n : ℕ) → n < 1000 → length (number_text n) ≤ 3
number_short n h = longer 2 100 n (λ i k. longer 1 10 i (λ j l. omega (arith, ap length (number_one j l))) (omega arith) k) (omega arith) h

pub number_four : (n : ℕ) → n < 10000 → length (number_text n) ≤ 4
number_four n h = longer 3 1000 n number_short (omega arith) h

-- seven below 10,000,000
pub number_seven : (n : ℕ) → n < 10000000 → length (number_text n) ≤ 7
number_seven n h =
    longer 6 1000000 n (λ i j. longer 5 100000 i (λ k l. longer 4 10000 k number_four (omega arith) l) (omega arith) j) (omega arith) h

-- The three lengths of the text of a number below 1,000.
pub data Digits (n : ℕ) : Type 0 where
  one : n < 10 → number_text n ≡ digit n ∷ [] → Digits n
  two : 10 ≤ n → n < 100 → number_text n ≡ digit (n / 10) ∷ digit (n % 10) ∷ [] → Digits n
  three : 100 ≤ n → number_text n ≡ digit (n / 100) ∷ digit (n / 10 % 10) ∷ digit (n % 10) ∷ [] → Digits n

pub digits_of : (n : ℕ) → n < 1000 → Digits n
digits_of n w = go (dec_lt n 10) (dec_lt n 100)
  where
    go : Dec (n < 10) → Dec (n < 100) → Digits n
    go (yes h) d = one h (number_one n h)
    go (no h) (yes k) = two (omega arith) k (rw (number_more n (omega arith), number_one (n / 10) (omega arith)))
    go (no h) (no k) =
        let e : n / 10 / 10 ≡ n / 100 = omega arith in
        three (omega arith) (rw (number_more n (omega arith), number_more (n / 10) (omega arith), number_one (n / 10 / 10) (omega arith), e))

module _ (n : ℕ) (h : n < 1000) where
  pub written_number : is_number (number_text n) ≡ true
  written_number = go (digits_of n h)
    where
      low : (d : ℕ) → d < 10 → is_digit (digit d) ≡ true
      low d k = is_digit_lem (digit d) (omega arith) (omega arith)

      go : Digits n → is_number (number_text n) ≡ true
      go (one l e) = rw e (one_digit (digit n) (low n l))
      go (two l m e) = rw e (two_digits (digit (n / 10)) (digit (n % 10)) (low (n / 10) (omega arith)) (low (n % 10) (omega arith)) (λ z. omega arith))
      go (three l e) =
          rw e
          (three_digits (digit (n / 100)) (digit (n / 10 % 10)) (digit (n % 10)) (low (n / 100) (omega arith)) (low (n / 10 % 10) (omega arith)) (low (n % 10) (omega arith)) (λ z. omega arith))

  pub written_value : number_in (number_text n) ≡ n
  written_value = number_value n

  -- it has no byte below `0` or above `9`
  pub number_without : (m : ℕ) → m < 48 → without m (number_text n) ≡ true
  number_without m k = go (digits_of n h)
    where
      no : (d : ℕ) → eqb (digit d) m ≡ false
      no d = ne_eqb (digit d) m (λ z. omega arith)

      go : Digits n → without m (number_text n) ≡ true
      go (one l e) = rw e (rw (no n))
      go (two l u e) = rw e (rw (no (n / 10), no (n % 10)))
      go (three l e) = rw e (rw (no (n / 100), no (n / 10 % 10), no (n % 10)))

  pub first_not : (m : ℕ) → m < 48 → eqb (get_or (number_text n) 0 0) m ≡ false
  first_not m k = go (digits_of n h)
    where
      no : (d : ℕ) → eqb (digit d) m ≡ false
      no d = ne_eqb (digit d) m (λ z. omega arith)

      go : Digits n → eqb (get_or (number_text n) 0 0) m ≡ false
      go (one l e) = rw e (no n)
      go (two l u e) = rw e (no (n / 10))
      go (three l e) = rw e (no (n / 100))

-- what it says of a field that it is a number
pub record NumberField (f : List ℕ) : Type 0 where
  pub least : 1 ≤ length f
  pub most : length f ≤ 3
  pub digits : all_digits f ≡ true
  pub leads : (not (eqb (get_or f 0 0) 48) || eqb (length f) 1) ≡ true

number_field : (f : List ℕ) → is_number f ≡ true → NumberField f
unfolding is_number
number_field f n =
    let ts = leb 1 (length f) ∷ leb (length f) 3 ∷ all_digits f ∷ (not (eqb (get_or f 0 0) 48) || eqb (length f) 1) ∷ [] in
    let h = every_true ts n in
    record { least = leb-true 1 (length f) h.0; most = leb-true (length f) 3 h.1.0; digits = h.1.1.0; leads = h.1.1.1.0 }

-- A field that is a number is the text of its value.
module _ (a : ℕ) (p : is_digit a ≡ true) where
  one_back : number_text (value_from 0 (a ∷ [])) ≡ a ∷ []
  one_back = go (digits_of (value_from 0 (a ∷ [])) (let r = digit_range a p in omega arith))
    where
      go : Digits (value_from 0 (a ∷ [])) → number_text (value_from 0 (a ∷ [])) ≡ a ∷ []
      go (one l e) = let r = digit_range a p in e ∙ ap (λ (x : ℕ). x ∷ []) (omega arith)
      go (two l m e) = let r = digit_range a p in absurd (omega arith)
      go (three l e) = let r = digit_range a p in absurd (omega arith)

  module _ (n : a ≡ 48 → ⊥) (b : ℕ) (q : is_digit b ≡ true) where
    two_back : number_text (value_from 0 (a ∷ b ∷ [])) ≡ a ∷ b ∷ []
    two_back = go (digits_of (value_from 0 (a ∷ b ∷ [])) (let r = digit_range a p in let r' = digit_range b q in omega arith))
      where
        go : Digits (value_from 0 (a ∷ b ∷ [])) → number_text (value_from 0 (a ∷ b ∷ [])) ≡ a ∷ b ∷ []
        go (one l e) = let r = digit_range a p in let r' = digit_range b q in absurd (omega arith)
        go (two l m e) =
            let r = digit_range a p in
            let r' = digit_range b q in
            e ∙ ap₂ {C = List ℕ} (λ x y. x ∷ y ∷ []) (omega arith) (omega arith)
        go (three l e) = let r = digit_range a p in let r' = digit_range b q in absurd (omega arith)

    three_back : (d : ℕ) → is_digit d ≡ true → number_text (value_from 0 (a ∷ b ∷ d ∷ [])) ≡ a ∷ b ∷ d ∷ []
    three_back d s = go (digits_of (value_from 0 (a ∷ b ∷ d ∷ [])) (let r = digit_range a p in let r' = digit_range b q in let r'' = digit_range d s in omega arith))
      where
        go : Digits (value_from 0 (a ∷ b ∷ d ∷ [])) → number_text (value_from 0 (a ∷ b ∷ d ∷ [])) ≡ a ∷ b ∷ d ∷ []
        go (one l e) = let r = digit_range a p in absurd (omega arith)
        go (two l m e) = let r = digit_range a p in absurd (omega arith)
        go (three l e) =
            let r = digit_range a p in
            let r' = digit_range b q in
            let r'' = digit_range d s in
            e ∙ ap₂ {C = List ℕ} (λ x y. x ∷ y) (omega arith) (ap₂ {C = List ℕ} (λ x y. x ∷ y ∷ []) (omega arith) (omega arith))

or_second : (t : Bool) → (t || false) ≡ true → t ≡ true
or_second true e = refl
or_second false e = e

pub number_back : (f : List ℕ) → is_number f ≡ true → number_text (number_in f) ≡ f
unfolding number_in
number_back f n = let w = number_field f n in go f w.least w.most w.digits w.leads
  where
    go : (f : List ℕ) → 1 ≤ length f → length f ≤ 3 → all_digits f ≡ true → (not (eqb (get_or f 0 0) 48) || eqb (length f) 1) ≡ true → number_text (value_from 0 f) ≡ f
    go [] l m d z = absurd (omega arith)
    go (a ∷ []) l m d z = one_back a (both_true (is_digit a) true d).0
    go (a ∷ b ∷ []) l m d z =
        let p = both_true (is_digit a) (is_digit b && true) d in
        two_back a p.0 (eqb-false a 48 (not-true (eqb a 48) (or_second (not (eqb a 48)) z))) b (both_true (is_digit b) true p.1).0
    go (a ∷ b ∷ c ∷ []) l m d z =
        let p = both_true (is_digit a) (is_digit b && (is_digit c && true)) d in
        let q = both_true (is_digit b) (is_digit c && true) p.1 in
        three_back a p.0 (eqb-false a 48 (not-true (eqb a 48) (or_second (not (eqb a 48)) z))) b q.0 c (both_true (is_digit c) true q.1).0
    go (a ∷ b ∷ c ∷ d ∷ f) l m e z = absurd (omega arith)

pub value_most : (f : List ℕ) → is_number f ≡ true → number_in f ≤ 999
unfolding number_in
value_most f n = let w = number_field f n in go f w.most w.digits
  where
    go : (f : List ℕ) → length f ≤ 3 → all_digits f ≡ true → value_from 0 f ≤ 999
    go [] l d = omega arith
    go (a ∷ []) l d = omega (arith, digit_range a (both_true (is_digit a) true d).0)
    go (a ∷ b ∷ []) l d =
        let p = both_true (is_digit a) (is_digit b && true) d in
        omega (arith, digit_range a p.0, digit_range b (both_true (is_digit b) true p.1).0)
    go (a ∷ b ∷ d ∷ []) l e =
        let p = both_true (is_digit a) (is_digit b && (is_digit d && true)) e in
        let q = both_true (is_digit b) (is_digit d && true) p.1 in
        omega (arith, digit_range a p.0, digit_range b q.0, digit_range d (both_true (is_digit d) true q.1).0)
    go (a ∷ b ∷ d ∷ e ∷ f) l h = absurd (omega arith)
