-- The letter that is a whole field. Assumes nothing.
use Rattle.std.proofs.Common.{◌≡◌, ℕ, suc, ◌+◌, ◌<◌, ◌≤◌, Bool, true, false, cond, ◌&&◌, eqb, leb, ◌⊎◌, List, [], ◌∷◌, length, get_or, drop, sym, refl, ap, ◌∙◌, inl, inr, ⊎_elim, arith, ne_eqb, eqb-true, le-leb, leb-false, leb-true}
use native.Mathlib.Decide.{ℕ_discrete}
use Rattle.semantics.specs.Text.{text_lines, field, is_letter}
use Rattle.fields.specs.Cursor.{InText, fields_at, field_at, lines_after, letter_then}
use Rattle.fields.proofs.Places.{byte_here, within, within_next, comma_fields, newline_fields, other_fields}
use Rattle.semantics.proofs.Soundness.{both_true}
use Rattle.fields.proofs.Fields.{Comma, Newline, some_field, follows, newline_after}

-- The letter at a place, or 0, by the byte x there and the byte y after it.
module _ (s : List ℕ) (at : ℕ) {x : ℕ} (b : x ≡ get_or s at 10) where
  letter_comma : x ≡ 44 → 0 ≡ letter_then (fields_at (drop at s))
  unfolding letter_then
  letter_comma e = rw (comma_fields s at (sym b ∙ e))

  letter_newline : x ≡ 10 → 0 ≡ letter_then (fields_at (drop at s))
  unfolding letter_then
  letter_newline e = rw (newline_fields s at (sym b ∙ e))

  module _ (m : x ≡ 44 → ⊥) (n : x ≡ 10 → ⊥) {y : ℕ} (d : y ≡ get_or s (at + 1) 10) where
    letter_fields : fields_at (drop at s) ≡ (get_or s at 10 ∷ field_at s (at + 1)) ∷ drop 1 (fields_at (drop (at + 1) s))
    letter_fields = other_fields s at (λ e. n (b ∙ e)) (λ e. m (b ∙ e))

    letter_is : y ≡ 44 → x ≡ letter_then (fields_at (drop at s))
    unfolding letter_then
    letter_is e =
        rw (letter_fields, comma_fields s (at + 1) (sym d ∙ e), le-leb 2 (suc (length (fields_at (drop (at + 1 + 1) s)))) (omega (arith, some_field (drop (at + 1 + 1) s)))) b

    letter_not : (y ≡ 44 → ⊥) → 0 ≡ letter_then (fields_at (drop at s))
    unfolding letter_then
    letter_not k = go (ℕ_discrete y 10)
      where
        go : Dec (y ≡ 10) → 0 ≡ letter_then (fields_at (drop at s))
        go (yes e) = rw (letter_fields, newline_fields s (at + 1) (sym d ∙ e))
        go (no l) =
            let f = field_at s (at + 1 + 1) in
            rw (letter_fields, other_fields s (at + 1) (λ e. l (d ∙ e)) (λ e. k (d ∙ e)), ne_eqb (suc (suc (length f))) 1 (λ z. omega arith))

-- What a letter says of the fields.
pub record LetterThen (s : List ℕ) (at r : ℕ) : Type 0 where
  pub fields : fields_at (drop at s) ≡ (r ∷ []) ∷ fields_at (drop (at + 2) s)
  pub lines : lines_after (drop at s) ≡ lines_after (drop (at + 2) s)
  pub place : InText s (at + 2)

letter_tests : (t : Bool) (y r : ℕ) → r ≡ cond t y 0 → (r ≡ 0 → ⊥) → (t ≡ true) × (r ≡ y)
letter_tests true y r e n = (refl, e)
letter_tests false y r e n = absurd (n e)

single : (f : List ℕ) (r : ℕ) → length f ≡ 1 → r ≡ get_or f 0 0 → f ≡ r ∷ []
single [] r l e = absurd (omega arith)
single (b ∷ []) r l e = rw e
single (b ∷ d ∷ f) r l e = absurd (omega arith)

module _ (s : List ℕ) (at : ℕ) (p : InText s at) {r : ℕ} (a : r ≡ letter_then (fields_at (drop at s))) where
  letter_then_lem : (r ≡ 0 → ⊥) → LetterThen s at r
  unfolding letter_then
  letter_then_lem n =
      let fs = fields_at (drop at s) in
      let f = field fs 0 in
      let w = letter_tests (eqb (length f) 1 && leb 2 (length fs)) (get_or f 0 0) r a n in
      let q = both_true (eqb (length f) 1) (leb 2 (length fs)) w.0 in
      let l : length f ≡ 1 = eqb-true (length f) 1 q.0 in
      let m : 2 ≤ length fs = leb-true 2 (length fs) q.1 in
      let e : f ≡ r ∷ [] = single f r l w.1 in
      let two : at + 1 + 1 ≡ at + 2 = omega arith in
      ⊎_elim
      (λ (k : (get_or s (at + 1) 10 ≡ 44) × Comma s at (at + 1)).
      let h : at + 1 < length s = within s (at + 1) (λ z. omega (arith, k.0)) in
      let v : InText s (at + 1) = record { inside = h; ended = p.ended } in
      let g : LetterThen s at r =
      record {
        fields = k.1.fields ∙ rw (e, two);
        lines = k.1.lines ∙ rw two;
        place = rw two at (within_next s (at + 1) v (λ z. omega (arith, k.0)));
      } in
      g)
      (λ (k : (get_or s (at + 1) 10 ≡ 10) × Newline s at (at + 1)). absurd (omega (arith, ap length k.1.fields)))
      (follows s at (at + 1) (omega arith))

-- A byte that is neither a comma, byte 10 nor 0, as a letter is.
pub record Plain (x : ℕ) : Type 0 where
  pub comma : x ≡ 44 → ⊥
  pub newline : x ≡ 10 → ⊥
  pub zero : x ≡ 0 → ⊥

pub plain : (x : ℕ) → 44 < x → Plain x
plain x h = record { comma = λ z. omega arith; newline = λ z. omega arith; zero = λ z. omega arith }

-- A line that begins with the letter x.
module _ (s : List ℕ) (at : ℕ) (p : InText s at) {x : ℕ} (b : get_or s at 10 ≡ x) (l : Plain x) where
  pub letter_next : InText s (at + 1)
  letter_next = within_next s at p (λ e. l.newline (sym b ∙ e))

  byte_next : get_or s (at + 1) 0 ≡ get_or s (at + 1) 10
  byte_next = let h : at + 1 < length s = letter_next.inside in byte_here s (at + 1) h

  pub letter_here : get_or s (at + 1) 0 ≡ 44 → LetterThen s at x
  letter_here e = letter_then_lem s at p (letter_is s at (sym b) l.comma l.newline byte_next e) l.zero

  pub letter_gone : (get_or s (at + 1) 0 ≡ 44 → ⊥) → letter_then (fields_at (drop at s)) ≡ 0
  letter_gone e = sym (letter_not s at (sym b) l.comma l.newline byte_next e)

-- The letter r is the field at a place, and the last one of its line.
pub record LetterLast (s : List ℕ) (at r : ℕ) : Type 0 where
  pub fields : fields_at (drop at s) ≡ (r ∷ []) ∷ []
  pub lines : lines_after (drop at s) ≡ text_lines (drop (at + 2) s)

module _ (s : List ℕ) (at : ℕ) {x : ℕ} (b : get_or s at 10 ≡ x) (l : Plain x) where
  last_field : fields_at (drop at s) ≡ (x ∷ field_at s (at + 1)) ∷ drop 1 (fields_at (drop (at + 1) s))
  last_field = other_fields s at (λ e. l.newline (sym b ∙ e)) (λ e. l.comma (sym b ∙ e)) ∙ rw b

  pub letter_last : get_or s (at + 1) 10 ≡ 10 → LetterLast s at x
  letter_last e =
      let two : at + 1 + 1 ≡ at + 2 = omega arith in
      let f : fields_at (drop at s) ≡ (x ∷ []) ∷ [] = last_field ∙ rw (newline_fields s (at + 1) e) in
      let n = newline_after s at (at + 1) (omega (arith, ap (λ (fs : List (List ℕ)). length (field fs 0)) f)) e in
      record { fields = f; lines = n.lines ∙ rw two }

-- Where another byte stands than the letter x with byte 10 behind it, the field is not that letter, or more fields follow.
pub no_letter_last : (s : List ℕ) (at x : ℕ) → (get_or s at 10 ≡ x → get_or s (at + 1) 10 ≡ 10 → ⊥) → (is_letter x (field_at s at) ≡ false) ⊎ (2 ≤ length (fields_at (drop at s)))
no_letter_last s at x n = first (ℕ_discrete (get_or s at 10) 44) (ℕ_discrete (get_or s at 10) 10) (ℕ_discrete (get_or s (at + 1) 10) 44) (ℕ_discrete (get_or s (at + 1) 10) 10)
  where
    first : Dec (get_or s at 10 ≡ 44) → Dec (get_or s at 10 ≡ 10) → Dec (get_or s (at + 1) 10 ≡ 44) → Dec (get_or s (at + 1) 10 ≡ 10)
        → (is_letter x (field_at s at) ≡ false) ⊎ (2 ≤ length (fields_at (drop at s)))
    first (yes e) d f g = inl (rw (comma_fields s at e))
    first (no m) (yes e) f g = inl (rw (newline_fields s at e))
    first (no m) (no k) (yes e) g =
        let q : fields_at (drop at s) ≡ (get_or s at 10 ∷ []) ∷ fields_at (drop (at + 1 + 1) s) = other_fields s at k m ∙ rw (comma_fields s (at + 1) e) in
        inr (omega (arith, ap length q, some_field (drop (at + 1 + 1) s)))
    first (no m) (no k) (no e) (yes g) = inl (rw (other_fields s at k m, newline_fields s (at + 1) g, ne_eqb (get_or s at 10) x (λ z. n z g)))
    first (no m) (no k) (no e) (no g) =
        inl (rw (other_fields s at k m, other_fields s (at + 1) g e, ne_eqb (suc (suc (length (field_at s (at + 1 + 1))))) 1 (λ z. omega arith)))

-- The letter is the byte at the place, or 0.
pub letter_or : (s : List ℕ) (at : ℕ) → (letter_then (fields_at (drop at s)) ≡ get_or s at 10) ⊎ (letter_then (fields_at (drop at s)) ≡ 0)
letter_or s at = first (ℕ_discrete (get_or s at 10) 44)
  where
    third : (get_or s at 10 ≡ 44 → ⊥) → (get_or s at 10 ≡ 10 → ⊥) → Dec (get_or s (at + 1) 10 ≡ 44)
        → (letter_then (fields_at (drop at s)) ≡ get_or s at 10) ⊎ (letter_then (fields_at (drop at s)) ≡ 0)
    third m n (yes e) = inl (sym (letter_is s at refl m n refl e))
    third m n (no e) = inr (sym (letter_not s at refl m n refl e))

    second : (get_or s at 10 ≡ 44 → ⊥) → Dec (get_or s at 10 ≡ 10)
        → (letter_then (fields_at (drop at s)) ≡ get_or s at 10) ⊎ (letter_then (fields_at (drop at s)) ≡ 0)
    second m (yes e) = inr (sym (letter_newline s at refl e))
    second m (no n) = third m n (ℕ_discrete (get_or s (at + 1) 10) 44)

    first : Dec (get_or s at 10 ≡ 44) → (letter_then (fields_at (drop at s)) ≡ get_or s at 10) ⊎ (letter_then (fields_at (drop at s)) ≡ 0)
    first (yes e) = inr (sym (letter_comma s at refl e))
    first (no m) = second m (ℕ_discrete (get_or s at 10) 10)

-- A test of a field that looks for one letter: where the letter fails it, so does the first field, or it is the only one.
pub letter_absent : (test : List ℕ → Bool) → ((f : List ℕ) → test f ≡ (eqb (length f) 1 && test (get_or f 0 0 ∷ []))) → (fs : List (List ℕ))
    → test (letter_then fs ∷ []) ≡ false → (test (field fs 0) ≡ false) ⊎ (length fs ≤ 1)
unfolding letter_then
letter_absent test one fs = go (eqb (length (field fs 0)) 1) (leb 2 (length fs)) refl refl
  where
    go : (t u : Bool) → eqb (length (field fs 0)) 1 ≡ t → leb 2 (length fs) ≡ u → test (cond (t && u) (get_or (field fs 0) 0 0) 0 ∷ []) ≡ false
        → (test (field fs 0) ≡ false) ⊎ (length fs ≤ 1)
    go true true p q h = inl (one (field fs 0) ∙ rw (p, h))
    go true false p q h = inr (omega (arith, leb-false 2 (length fs) q))
    go false u p q h = inl (one (field fs 0) ∙ rw p)
