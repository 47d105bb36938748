-- What `number_before` and `read_literal` answer, and what their answers say of the fields at a place. Assumes nothing.
use Rattle.std.proofs.Common.{◌≡◌, ℕ, ◌+◌, ◌*◌, ◌<◌, ◌≤◌, Bool, true, false, cond, ◌&&◌, eqb, ◌⊎◌, List, [], ◌∷◌, length, get_or, drop, sym, refl, ap, ◌∙◌, inl, inr, ⊎_elim, add-zero, arith, eq-eqb, ne_eqb, eqb-true, Option, Some, None}
use native.Mathlib.Decide.{ℕ_discrete}
use borrow.Author.Tests.{eqb-false}
use Rattle.semantics.specs.Area.{code_of}
use Rattle.semantics.specs.Text.{text_lines, is_number, number_in, is_literal, literal_in}
use Rattle.semantics.proofs.Soundness.{both_true}
use Rattle.std.proofs.lemmas.Option.{cond_some, none-some}
use Rattle.fields.specs.declared.Token.{Token}
use Rattle.fields.specs.Cursor.{InText, fields_at, field_at, lines_after, class_of, Numbered, Digits, DigitsAt, SignIs, number_before, NumberTo, LiteralIs, LiteralAt, CodeTo}
use Rattle.fields.proofs.Places.{byte_here, within, within_next}
use Rattle.fields.proofs.Numbers.{field_more, field_end}
use Rattle.fields.proofs.Fields.{some_field, Comma, Newline, comma_after, newline_after, follows}

cond_none : {A : Type 0} (b : Bool) (x : A) → None ≡ cond b (Some x) None → b ≡ false
cond_none true x h = absurd (none-some x h)
cond_none false x h = refl

-- the answer of `number_before`
module _ (s : List ℕ) (at m : ℕ) where
  pub before_none : is_number (field_at s at) ≡ false → None ≡ number_before s at m
  unfolding number_before
  before_none n = rw n

  module _ {v e x : ℕ} (n : Numbered s at v e) (b : x ≡ get_or s e 10) where
    before_number : x ≡ m → Some (record { value = v; end = e + 1 }) ≡ number_before s at m
    unfolding number_before
    before_number h = rw (n.number, n.end, n.value, eq-eqb (get_or s e 10) m (sym b ∙ h))

    before_other : (x ≡ m → ⊥) → None ≡ number_before s at m
    unfolding number_before
    before_other h = rw (n.number, n.end, n.value, ne_eqb (get_or s e 10) m (λ z. h (b ∙ z)))

-- by the digits at the place, and the byte x that follows them
module _ (s : List ℕ) (at m : ℕ) (w : class_of m ≡ 10) {v e : ℕ} (d : Digits s at v e) where
  byte_behind : get_or s e 0 ≡ get_or s e 10
  byte_behind = let l : e < length s = d.place.inside in byte_here s e l

  pub ends_number : get_or s e 0 ≡ m → Some (record { value = v; end = e + 1 }) ≡ number_before s at m
  ends_number h = let g : get_or s e 10 ≡ m = sym byte_behind ∙ h in before_number s at m (d.ends (ap class_of g ∙ w)) refl g

  pub ends_other : (get_or s e 0 ≡ m → ⊥) → None ≡ number_before s at m
  ends_other h = go (ℕ_discrete (class_of (get_or s e 10)) 10)
    where
      go : Dec (class_of (get_or s e 10) ≡ 10) → None ≡ number_before s at m
      go (yes t) = before_other s at m (d.ends t) refl (λ z. h (byte_behind ∙ z))
      go (no t) = before_none s at m (d.other t)

-- the answers of `number_before` at a comma and at byte 10
pub record NumberThen (s : List ℕ) (at v e : ℕ) : Type 0 where
  pub number : is_number (field_at s at) ≡ true
  pub value : number_in (field_at s at) ≡ v
  pub fields : fields_at (drop at s) ≡ field_at s at ∷ fields_at (drop e s)
  pub lines : lines_after (drop at s) ≡ lines_after (drop e s)
  pub ahead : at < e
  pub place : InText s e

pub record NumberLast (s : List ℕ) (at v e : ℕ) : Type 0 where
  pub number : is_number (field_at s at) ≡ true
  pub value : number_in (field_at s at) ≡ v
  pub fields : fields_at (drop at s) ≡ field_at s at ∷ []
  pub lines : lines_after (drop at s) ≡ text_lines (drop e s)
  pub ahead : at < e

-- a number, by the byte that follows it
module _ (s : List ℕ) (at : ℕ) where
  comma_then : InText s at → {v e : ℕ} → Numbered s at v e → get_or s e 10 ≡ 44 → NumberThen s at v (e + 1)
  comma_then p {v} {e} n b =
      let c = comma_after s at e n.end b in
      let g : e < length s = within s e (λ z. omega arith) in
      record {
        number = n.number;
        value = n.value;
        fields = c.fields;
        lines = c.lines;
        ahead = omega (arith, n.end);
        place = within_next s e (record { inside = g; ended = p.ended }) (λ z. omega arith);
      }

  newline_last : {v e : ℕ} → Numbered s at v e → get_or s e 10 ≡ 10 → NumberLast s at v (e + 1)
  newline_last {v} {e} n b =
      let c = newline_after s at e n.end b in
      record { number = n.number; value = n.value; fields = c.fields; lines = c.lines; ahead = omega (arith, n.end) }

  -- a comma follows where there are more fields, byte 10 where there are none
  pub number_more : InText s at → {v e : ℕ} → NumberTo s at v e → 2 ≤ length (fields_at (drop at s)) → NumberThen s at v (e + 1)
  number_more p {v} {e} n l =
      ⊎_elim (λ (k : (get_or s e 10 ≡ 44) × Comma s at e). comma_then p n.numbered k.0)
      (λ (k : (get_or s e 10 ≡ 10) × Newline s at e). absurd (omega (arith, ap length k.1.fields)))
      (follows s at e n.numbered.end)

  pub number_only : {v e : ℕ} → NumberTo s at v e → length (fields_at (drop at s)) ≡ 1 → NumberLast s at v (e + 1)
  number_only {v} {e} n l =
      ⊎_elim
      (λ (k : (get_or s e 10 ≡ 44) × Comma s at e). absurd (omega (arith, ap length k.1.fields, some_field (drop (e + 1) s))))
      (λ (k : (get_or s e 10 ≡ 10) × Newline s at e). newline_last n.numbered k.0)
      (follows s at e n.numbered.end)

module _ (s : List ℕ) (at m : ℕ) where
  ended : {t : Token} → Some t ≡ number_before s at m
      → Numbered s at t.value (at + length (field_at s at)) × (get_or s (at + length (field_at s at)) 10 ≡ m) × (at + length (field_at s at) + 1 ≡ t.end)
  unfolding number_before
  ended {t} h =
      let f = field_at s at in
      let w = cond_some (is_number f && eqb (get_or s (at + length f) 10) m) (record { value = number_in f; end = at + length f + 1 }) t (sym h) in
      let b = both_true (is_number f) (eqb (get_or s (at + length f) 10) m) w.0 in
      (record { number = b.0; value = ap (λ (k : Token). k.value) w.1; end = refl }, eqb-true (get_or s (at + length f) 10) m b.1, ap (λ (k : Token). k.end) w.1)

  not_ended : None ≡ number_before s at m → (is_number (field_at s at) && eqb (get_or s (at + length (field_at s at)) 10) m) ≡ false
  unfolding number_before
  not_ended h =
      let f = field_at s at in
      cond_none (is_number f && eqb (get_or s (at + length f) 10) m) (record { value = number_in f; end = at + length f + 1 }) h

-- a failed test of two, where the first held
second_false : (t u : Bool) → (t && u) ≡ false → (t ≡ false) ⊎ (u ≡ false)
second_false true u e = inr e
second_false false u e = inl refl

module _ (s : List ℕ) (at : ℕ) where
  pub number_then : InText s at → {t : Token} → Some t ≡ number_before s at 44 → NumberThen s at t.value t.end
  number_then p h = let w = ended s at 44 h in rw w.2 at (comma_then s at p w.0 w.1)

  pub number_last : {t : Token} → Some t ≡ number_before s at 10 → NumberLast s at t.value t.end
  number_last h = let w = ended s at 10 h in rw w.2 at (newline_last s at w.0 w.1)

  -- no number, or no comma behind it: then it is the last field
  pub no_number_then : None ≡ number_before s at 44 → (is_number (field_at s at) ≡ false) ⊎ (length (fields_at (drop at s)) ≡ 1)
  no_number_then h =
      let n = at + length (field_at s at) in
      ⊎_elim (λ (u : is_number (field_at s at) ≡ false). inl u)
      (λ (u : eqb (get_or s n 10) 44 ≡ false).
      ⊎_elim (λ (w : (get_or s n 10 ≡ 44) × Comma s at n). absurd (eqb-false (get_or s n 10) 44 u w.0))
      (λ (w : (get_or s n 10 ≡ 10) × Newline s at n). inr (ap length w.1.fields))
      (follows s at n refl))
      (second_false (is_number (field_at s at)) (eqb (get_or s n 10) 44) (not_ended s at 44 h))

  -- no number, or no byte 10 behind it: then more fields follow
  pub no_number_last : None ≡ number_before s at 10 → (is_number (field_at s at) ≡ false) ⊎ (2 ≤ length (fields_at (drop at s)))
  no_number_last h =
      let n = at + length (field_at s at) in
      ⊎_elim (λ (u : is_number (field_at s at) ≡ false). inl u)
      (λ (u : eqb (get_or s n 10) 10 ≡ false).
      ⊎_elim (λ (w : (get_or s n 10 ≡ 44) × Comma s at n). inr (omega (arith, ap length w.1.fields, some_field (drop (n + 1) s))))
      (λ (w : (get_or s n 10 ≡ 10) × Newline s at n). absurd (eqb-false (get_or s n 10) 10 u w.0))
      (follows s at n refl))
      (second_false (is_number (field_at s at)) (eqb (get_or s n 10) 10) (not_ended s at 10 h))

-- a comma and byte 10 end a field
pub comma_class : class_of 44 ≡ 10
unfolding class_of
comma_class = refl

pub newline_class : class_of 10 ≡ 10
unfolding class_of
newline_class = refl

-- The answer of `read_literal`, by the first byte x of the field: `!` or another.
module _ (s : List ℕ) (at : ℕ) (w : InText s at) where
  byte_first : get_or s at 0 ≡ get_or s at 10
  byte_first = let l : at < length s = w.inside in byte_here s at l

  module _ (n : get_or s at 0 ≡ 33) where
    negated_field : field_at s at ≡ 33 ∷ field_at s (at + 1)
    unfolding class_of
    negated_field =
        let e : get_or s at 10 ≡ 33 = sym byte_first ∙ n in
        field_more s at (at + 1) refl (λ (z : class_of (get_or s at 10) ≡ 10). let k : 11 ≡ 10 = ap class_of (sym e) ∙ z in omega arith)
        ∙ ap (λ (y : ℕ). y ∷ field_at s (at + 1)) e

    negated_none : is_number (field_at s (at + 1)) ≡ is_literal (field_at s at)
    unfolding is_literal
    negated_none = rw negated_field

    negated_literal : {v e : ℕ} → Numbered s (at + 1) v e → LiteralIs s at v e × (code_of (literal_in (field_at s at)) ≡ 2 * v + 1)
    unfolding literal_in
    negated_literal {v} {e} h =
        (record { literal = sym negated_none ∙ h.number; condition = rw (negated_field, h.value); end = omega (arith, ap length negated_field, h.end) }, rw (negated_field, h.value))

    negated_place : InText s (at + 1)
    negated_place = within_next s at w (λ z. omega (arith, byte_first))

  module _ (n : get_or s at 0 ≡ 33 → ⊥) where
    not_negated : eqb (get_or (field_at s at) 0 0) 33 ≡ false
    not_negated = go (ℕ_discrete (class_of (get_or s at 10)) 10)
      where
        go : Dec (class_of (get_or s at 10) ≡ 10) → eqb (get_or (field_at s at) 0 0) 33 ≡ false
        go (yes e) = rw (field_end s at e)
        go (no k) = rw (field_more s at (at + 1) refl k) (ne_eqb (get_or s at 10) 33 (λ z. n (byte_first ∙ z)))

    positive_none : is_number (field_at s at) ≡ is_literal (field_at s at)
    unfolding is_literal
    positive_none = rw not_negated

    positive_literal : {v e : ℕ} → Numbered s at v e → LiteralIs s at v e × (code_of (literal_in (field_at s at)) ≡ 2 * v)
    unfolding literal_in
    positive_literal {v} {e} h =
        (record { literal = sym positive_none ∙ h.number; condition = rw (not_negated, h.value); end = h.end }, rw (not_negated, h.value))

  -- by what `sign` answers
  module _ {k : ℕ} (g : SignIs (get_or s at 0) k) where
    pub literal_place : InText s (at + k)
    literal_place = go g
      where
        go : SignIs (get_or s at 0) k → InText s (at + k)
        go (inl h) = rw h.1 (negated_place h.0)
        go (inr h) = rw (h.1, add-zero) w

    pub literal_number : is_number (field_at s (at + k)) ≡ is_literal (field_at s at)
    literal_number = go g
      where
        go : SignIs (get_or s at 0) k → is_number (field_at s (at + k)) ≡ is_literal (field_at s at)
        go (inl h) = rw h.1 (negated_none h.0)
        go (inr h) = rw (h.1, add-zero) (positive_none h.0)

    literal_is : {v e : ℕ} → Numbered s (at + k) v e → LiteralIs s at v e × (code_of (literal_in (field_at s at)) ≡ 2 * v + k)
    literal_is {v} {e} d = go g
      where
        go : SignIs (get_or s at 0) k → LiteralIs s at v e × (code_of (literal_in (field_at s at)) ≡ 2 * v + k)
        go (inl h) = rw h.1 (negated_literal h.0 (rw h.1 at d))
        go (inr h) = rw (h.1, add-zero) (positive_literal h.0 (rw (h.1, add-zero) at d))

    -- what `read_literal` answers, by the digits behind the sign
    pub literal_at : (r : Option Token) → DigitsAt s (at + k) r → LiteralAt s at r
    literal_at (Some t) d =
        record {
          ends = λ h. (literal_is (d.ends h)).0;
          other = λ h. sym literal_number ∙ d.other h;
          ahead = omega (arith, d.ahead);
          place = d.place;
        }
    literal_at None d = sym literal_number ∙ d

    -- what `checked_literal` answers
    pub literal_code_lem : {v e : ℕ} → NumberTo s (at + k) v e → CodeTo s at (2 * v + k) e
    literal_code_lem {v} {e} n =
        let l = literal_is n.numbered in
        record { is = l.1; end = l.0.end; ahead = omega (arith, n.ahead); place = n.place }
