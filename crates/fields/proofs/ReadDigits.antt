-- The digits at a place, as they are read one after the other. Assumes nothing.
use Rattle.std.proofs.Common.{◌≡◌, ℕ, ◌+◌, ◌-◌, ◌*◌, ◌<◌, ◌≤◌, true, false, ◌⊎◌, List, length, get_or, sym, refl, ap, ◌∙◌, inl, inr, arith}
use mathlib.Core.Bool.{false≢true}
use native.Mathlib.Decide.{ℕ_discrete, dec_lt}
use Rattle.semantics.specs.Text.{is_number}
use Rattle.semantics.proofs.TextNumbers.{digit_range}
use Rattle.fields.specs.Cursor.{InText, field_at, class_of, DigitIs, FirstDigit, Digits}
use Rattle.fields.proofs.Places.{byte_here, within_next}
use Rattle.fields.proofs.Numbers.{class_most, class_digit, class_value, none_first, one_number, none_second, none_leading, two_number, none_third, three_number, none_longer}

-- a byte that is no digit and ends no field
eleven : (b : ℕ) → 9 < class_of b → (class_of b ≡ 10 → ⊥) → class_of b ≡ 11
eleven b h n = go (ℕ_discrete (class_of b) 11)
  where
    go : Dec (class_of b ≡ 11) → class_of b ≡ 11
    go (yes e) = e
    go (no m) = absurd (omega (arith, class_most b n m))

-- the byte read at a place, and the place behind a digit
module _ (s : List ℕ) (i : ℕ) (w : InText s i) where
  class_here : class_of (get_or s i 0) ≡ class_of (get_or s i 10)
  class_here = let l : i < length s = w.inside in ap class_of (byte_here s i l)

  other_class : 9 < class_of (get_or s i 0) → 9 < class_of (get_or s i 10)
  other_class o = rw class_here at o

  module _ {A : ℕ} (p : DigitIs (get_or s i 0) A) where
    digit_class : A ≡ class_of (get_or s i 10)
    digit_class = p.is ∙ class_here

    pub digit_next : InText s (i + 1)
    unfolding class_of
    digit_next = within_next s i w (λ e. let z : A ≡ 10 = digit_class ∙ ap class_of e in omega (arith, p.most))

module _ (s : List ℕ) (at : ℕ) (w : InText s at) where
  pub no_digits : 9 < class_of (get_or s at 0) → is_number (field_at s at) ≡ false
  no_digits o = none_first s at (class_of (get_or s at 10)) refl (other_class s at w o)

  module _ {A : ℕ} (p : DigitIs (get_or s at 0) A) where
    pub zero_only : A ≡ 0 → Digits s at 0 (at + 1)
    zero_only e =
        let a = digit_class s at w p in
        let b = class_of (get_or s (at + 1) 10) in
        record {
          ends = λ t. rw e at (one_number s at A a b refl p.most t);
          other = λ t. none_leading s at A a b refl e t;
          most = omega arith;
          ahead = omega arith;
          place = digit_next s at w p;
        }

    pub one_only : 9 < class_of (get_or s (at + 1) 0) → Digits s at A (at + 1)
    one_only o =
        let a = digit_class s at w p in
        let v = digit_next s at w p in
        let b = class_of (get_or s (at + 1) 10) in
        record {
          ends = λ t. one_number s at A a b refl p.most t;
          other = λ t. none_second s at A a b refl p.most (eleven (get_or s (at + 1) 10) (other_class s (at + 1) v o) t);
          most = omega (arith, p.most);
          ahead = omega arith;
          place = v;
        }

    module _ {B : ℕ} (q : DigitIs (get_or s (at + 1) 0) B) where
      pub third_place : InText s (at + 2)
      third_place =
          let two : at + 1 + 1 ≡ at + 2 = omega arith in
          rw two at (digit_next s (at + 1) (digit_next s at w p) q)

      -- a digit follows the first, which is not `0` then
      pub not_zero : (A ≡ 0 → ⊥) ⊎ (is_number (field_at s at) ≡ true) → A ≡ 0 → ⊥
      not_zero (inl n) e = n e
      not_zero (inr n) e =
          false≢true
          (sym (none_leading s at A (digit_class s at w p) B (digit_class s (at + 1) (digit_next s at w p) q) e (λ z. omega (arith, q.most))) ∙ n)

      module _ (n : A ≡ 0 → ⊥) where
        pub two_only : 9 < class_of (get_or s (at + 2) 0) → Digits s at (A * 10 + B) (at + 2)
        two_only o =
            let a = digit_class s at w p in
            let b = digit_class s (at + 1) (digit_next s at w p) q in
            let d = class_of (get_or s (at + 2) 10) in
            record {
              ends = λ t. two_number s at A a B b p.most n (λ z. omega (arith, q.most)) (λ z. omega (arith, q.most)) d refl t;
              other = λ t.
                  none_third s at A a B b p.most n (λ z. omega (arith, q.most)) (λ z. omega (arith, q.most)) d refl
                  (eleven (get_or s (at + 2) 10) (other_class s (at + 2) third_place o) t);
              most = omega (arith, p.most, q.most);
              ahead = omega arith;
              place = third_place;
            }

        pub three_all : {D : ℕ} → DigitIs (get_or s (at + 2) 0) D → Digits s at ((A * 10 + B) * 10 + D) (at + 3)
        three_all {D} r =
            let a = digit_class s at w p in
            let b = digit_class s (at + 1) (digit_next s at w p) q in
            let d = digit_class s (at + 2) third_place r in
            let e = class_of (get_or s (at + 3) 10) in
            let three : at + 2 + 1 ≡ at + 3 = omega arith in
            record {
              ends = λ t.
                  three_number s at A a B b p.most n (λ z. omega (arith, q.most)) (λ z. omega (arith, q.most)) D d (λ z. omega (arith, r.most)) (λ z. omega (arith, r.most)) e refl t;
              other = λ t.
                  none_longer s at A a B b p.most n (λ z. omega (arith, q.most)) (λ z. omega (arith, q.most)) D d (λ z. omega (arith, r.most)) (λ z. omega (arith, r.most)) e refl t;
              most = omega (arith, p.most, q.most, r.most);
              ahead = omega arith;
              place = rw three at (digit_next s (at + 2) third_place r);
            }

-- The field at a place is known to be a number.
module _ (s : List ℕ) (at : ℕ) (w : InText s at) (n : is_number (field_at s at) ≡ true) where
  first_class : class_of (get_or s at 0) ≤ 9
  first_class = go (dec_lt 9 (class_of (get_or s at 0)))
    where
      go : Dec (9 < class_of (get_or s at 0)) → class_of (get_or s at 0) ≤ 9
      go (yes o) = absurd (false≢true (sym (no_digits s at w o) ∙ n))
      go (no o) = omega arith

  pub digit_byte : (48 ≤ get_or s at 0) × (get_or s at 0 ≤ 57)
  digit_byte = digit_range (get_or s at 0) (class_digit (get_or s at 0) first_class)

  pub first_digit : FirstDigit s at (get_or s at 0 - 48)
  first_digit =
      let b = get_or s at 0 in
      let v = class_value b (class_digit b first_class) in
      record { place = w; digit = record { is = sym v; most = omega (arith, first_class) }; leads = inr n }
