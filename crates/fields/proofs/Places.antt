-- The fields at a place of a text, by the byte that stands there. Assumes nothing.
use Rattle.std.proofs.Common.{◌≡◌, ℕ, zero, suc, ◌+◌, ◌-◌, ◌<◌, ◌≤◌, List, [], ◌∷◌, length, get_or, drop, refl, ap, ◌∙◌, add-one, arith, drop_of_length-le, drop-cons, ne_eqb}
use native.Mathlib.Decide.{dec_lt}
use lib.ListN.{get_or-eq_default}
use Rattle.semantics.specs.Text.{text_lines, fields_of, field}
use Rattle.fields.specs.Cursor.{InText, fields_at}

-- the byte that is read where there is one, and 10 where there is none
pub byte_here : (s : List ℕ) (i : ℕ) → i < length s → get_or s i 0 ≡ get_or s i 10
byte_here [] i h = absurd (omega arith)
byte_here (b ∷ s) zero h = refl
byte_here (b ∷ s) (suc i) h = byte_here s i (omega arith)

-- a byte other than the 10 of the end lies within the text
pub within : (s : List ℕ) (i : ℕ) → (get_or s i 10 ≡ 10 → ⊥) → i < length s
within s i h = go (dec_lt i (length s))
  where
    go : Dec (i < length s) → i < length s
    go (yes l) = l
    go (no n) = absurd (h (get_or-eq_default s 10 (omega arith)))

-- a byte other than the 10 that ends the text has a byte behind it
pub within_next : (s : List ℕ) (i : ℕ) → InText s i → (get_or s i 10 ≡ 10 → ⊥) → InText s (i + 1)
within_next s i w h = record { inside = go (dec_lt (i + 1) (length s)); ended = w.ended }
  where
    go : Dec (i + 1 < length s) → i + 1 < length s
    go (yes l) = l
    go (no n) =
        let e : i ≡ length s - 1 = omega (arith, w.inside) in
        absurd (h (ap (λ (k : ℕ). get_or s k 10) e ∙ w.ended))

module _ (s : List ℕ) (i : ℕ) where
  -- at a comma an empty field ends
  pub comma_fields : get_or s i 10 ≡ 44 → fields_at (drop i s) ≡ [] ∷ fields_at (drop (i + 1) s)
  unfolding fields_at text_lines fields_of
  comma_fields e =
      let h : i < length s = within s i (λ z. omega arith) in
      rw (add-one, drop-cons s i 10 h, e)

  -- at byte 10, and at the end of the text, an empty field and the line end
  pub newline_fields : get_or s i 10 ≡ 10 → fields_at (drop i s) ≡ [] ∷ []
  unfolding fields_at text_lines fields_of
  newline_fields e = go (dec_lt i (length s))
    where
      go : Dec (i < length s) → fields_at (drop i s) ≡ [] ∷ []
      go (yes h) = rw (drop-cons s i 10 h, e)
      go (no n) = let h : length s ≤ i = omega arith in rw (drop_of_length-le s h)

  -- any other byte stands at the front of the field
  pub other_fields : (get_or s i 10 ≡ 10 → ⊥) → (get_or s i 10 ≡ 44 → ⊥) → fields_at (drop i s) ≡ (get_or s i 10 ∷ field (fields_at (drop (i + 1) s)) 0) ∷ drop 1 (fields_at (drop (i + 1) s))
  unfolding fields_at text_lines fields_of
  other_fields n m =
      let h : i < length s = within s i n in
      rw (add-one, drop-cons s i 10 h, ne_eqb (get_or s i 10) 10 n, ne_eqb (get_or s i 10) 44 m)
