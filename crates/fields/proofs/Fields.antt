-- The field at a place of a text: where it ends, and what follows it. Assumes nothing.
use Rattle.std.proofs.Common.{◌≡◌, ℕ, suc, ◌+◌, ◌≤◌, Bool, true, false, eqb, ◌⊎◌, List, [], ◌∷◌, length, get_or, drop, sym, refl, ap, ◌∙◌, inl, inr, ⊎_elim, arith, get_or-drop, drop-drop, eqb-true}
use Rattle.semantics.specs.Text.{parted, text_lines, fields_of, field}
use Rattle.semantics.proofs.TextParts.{some_field as first_field}
use Rattle.fields.specs.Cursor.{fields_at, lines_after, field_at}

-- What follows the first field of a text, of length n: a comma and more fields, or the end of the line.
data Ending (t : List ℕ) (n : ℕ) : Type 0 where
  at_comma : get_or t n 10 ≡ 44 → drop 1 (fields_at t) ≡ fields_at (drop (suc n) t) → lines_after t ≡ lines_after (drop (suc n) t) → Ending t n
  at_newline : get_or t n 10 ≡ 10 → drop 1 (fields_at t) ≡ [] → lines_after t ≡ text_lines (drop (suc n) t) → Ending t n

-- a text that begins with the byte b
module _ (b : ℕ) (t : List ℕ) where
  ends_line : eqb b 10 ≡ true → Ending (b ∷ t) (length (field (fields_at (b ∷ t)) 0))
  unfolding fields_at lines_after text_lines fields_of
  ends_line p = rw p (at_newline (eqb-true b 10 p) (rw p) (rw p))

  module _ (p : eqb b 10 ≡ false) where
    same_lines : lines_after (b ∷ t) ≡ lines_after t
    unfolding lines_after text_lines
    same_lines = rw p

    fields_on : fields_at (b ∷ t) ≡ parted (eqb b 44) b (fields_at t)
    unfolding fields_at text_lines fields_of
    fields_on = rw p

    ends_field : eqb b 44 ≡ true → Ending (b ∷ t) (length (field (fields_at (b ∷ t)) 0))
    ends_field q = rw (fields_on, q) (at_comma (eqb-true b 44 q) (rw (fields_on, q)) same_lines)

    longer : eqb b 44 ≡ false → Ending t (length (field (fields_at t) 0)) → Ending (b ∷ t) (length (field (fields_at (b ∷ t)) 0))
    longer q (at_comma e f l) = rw (fields_on, q) (at_comma e (rw (fields_on, q) f) (same_lines ∙ l))
    longer q (at_newline e f l) = rw (fields_on, q) (at_newline e (rw (fields_on, q) f) (same_lines ∙ l))

  ending_of : (u v : Bool) → eqb b 10 ≡ u → eqb b 44 ≡ v → Ending t (length (field (fields_at t) 0)) → Ending (b ∷ t) (length (field (fields_at (b ∷ t)) 0))
  ending_of true v p q h = ends_line p
  ending_of false true p q h = ends_field p q
  ending_of false false p q h = longer p q h

ending : (t : List ℕ) → Ending t (length (field (fields_at t) 0))
unfolding fields_at lines_after text_lines fields_of
ending [] = at_newline refl refl refl
ending (b ∷ t) = ending_of b t (eqb b 10) (eqb b 44) refl refl (ending t)

-- there is a field in every line
pub some_field : (t : List ℕ) → 1 ≤ length (fields_at t)
unfolding fields_at
some_field t = let l = get_or (text_lines t) 0 [] in omega (arith, ap length (first_field l))

-- What follows the field at a place, which ends at the place e.
pub record Comma (s : List ℕ) (at e : ℕ) : Type 0 where
  pub fields : fields_at (drop at s) ≡ field_at s at ∷ fields_at (drop (e + 1) s)
  pub lines : lines_after (drop at s) ≡ lines_after (drop (e + 1) s)

pub record Newline (s : List ℕ) (at e : ℕ) : Type 0 where
  pub fields : fields_at (drop at s) ≡ field_at s at ∷ []
  pub lines : lines_after (drop at s) ≡ text_lines (drop (e + 1) s)

module _ (s : List ℕ) (at e : ℕ) (h : at + length (field_at s at) ≡ e) where
  pub first_here : fields_at (drop at s) ≡ field_at s at ∷ drop 1 (fields_at (drop at s))
  unfolding fields_at
  first_here = first_field (get_or (text_lines (drop at s)) 0 [])

  after_here : drop (suc (length (field_at s at))) (drop at s) ≡ drop (e + 1) s
  after_here =
      let g : at + suc (length (field_at s at)) ≡ e + 1 = omega arith in
      drop-drop (suc (length (field_at s at))) at s ∙ ap (λ (k : ℕ). drop k s) g

  byte_there : get_or (drop at s) (length (field_at s at)) 10 ≡ get_or s e 10
  byte_there = get_or-drop at s (length (field_at s at)) 10 ∙ ap (λ (k : ℕ). get_or s k 10) h

  -- the byte where the field ends is a comma, or it is 10
  pub follows : ((get_or s e 10 ≡ 44) × Comma s at e) ⊎ ((get_or s e 10 ≡ 10) × Newline s at e)
  follows = go (ending (drop at s))
    where
      go : Ending (drop at s) (length (field_at s at)) → ((get_or s e 10 ≡ 44) × Comma s at e) ⊎ ((get_or s e 10 ≡ 10) × Newline s at e)
      go (at_comma b f l) =
          inl (sym byte_there ∙ b, record { fields = first_here ∙ ap (λ (fs : List (List ℕ)). field_at s at ∷ fs) (f ∙ ap fields_at after_here); lines = l ∙ ap lines_after after_here })
      go (at_newline b f l) =
          inr (sym byte_there ∙ b, record { fields = first_here ∙ ap (λ (fs : List (List ℕ)). field_at s at ∷ fs) f; lines = l ∙ ap text_lines after_here })

  pub comma_after : get_or s e 10 ≡ 44 → Comma s at e
  comma_after b = ⊎_elim (λ w. w.1) (λ w. absurd (omega (arith, w.0))) follows

  pub newline_after : get_or s e 10 ≡ 10 → Newline s at e
  newline_after b = ⊎_elim (λ w. absurd (omega (arith, w.0))) (λ w. w.1) follows
