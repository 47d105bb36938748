-- The first line, by what the parser has read of it. Assumes nothing.
use mathlib.Core.Path.{◌≡◌, refl, sym, ◌∙◌, ap}
use mathlib.Core.Bool.{false}
use mathlib.Core.List.{List, [], ◌∷◌}
use mathlib.Core.Logic.{◌⊎◌, inl, inr, ⊎_elim}
use Prim.Native.Nat.{ℕ, suc, ◌≤◌}
use native.Mathlib.Omega.{arith}
use lib.ListN.{length, get_or, drop}
use borrow.Author.Tests.{ne_eqb}
use Rattle.semantics.specs.Text.{field, is_number, number_in, is_letter, head_form, is_head}
use Rattle.semantics.proofs.TestLists.{fails}
use Rattle.fields.specs.Cursor.{fields_at, field_at, letter_then}
use Rattle.reader.specs.Checks.{HeadSays}
use Rattle.fields.proofs.Tokens.{NumberThen, NumberLast}
use Rattle.fields.proofs.Letters.{LetterThen, letter_absent, letter_or}

no_head_letter : (fs : List (List ℕ)) → (letter_then fs ≡ 71 → ⊥) → is_head fs ≡ false
unfolding is_head
no_head_letter fs n = go (letter_absent (is_letter 71) (λ f. refl) fs (ne_eqb (letter_then fs) 71 n))
  where
    go : (is_letter 71 (field fs 0) ≡ false) ⊎ (length fs ≤ 1) → is_head fs ≡ false
    go (inl e) = fails (head_form fs) 0 e
    go (inr l) = fails (head_form fs) 1 (ne_eqb (length fs) 3 (λ z. omega arith))

-- no letter, and another byte than `G`
pub gone_head : (s : List ℕ) → letter_then (fields_at (drop 0 s)) ≡ 0 → is_head (fields_at s) ≡ false
gone_head s e = no_head_letter (fields_at s) (λ z. omega arith)

pub other_head : (s : List ℕ) → (get_or s 0 10 ≡ 71 → ⊥) → is_head (fields_at s) ≡ false
other_head s n =
    ⊎_elim (λ (e : letter_then (fields_at s) ≡ get_or s 0 10). no_head_letter (fields_at s) (λ z. n (sym e ∙ z)))
    (λ (e : letter_then (fields_at s) ≡ 0). gone_head s e)
    (letter_or s 0)

module _ (s : List ℕ) (k : LetterThen s 0 71) where
  pub no_top : (is_number (field_at s 2) ≡ false) ⊎ (length (fields_at (drop 2 s)) ≡ 1) → is_head (fields_at s) ≡ false
  unfolding is_head
  no_top h = ap is_head k.fields ∙ go h
    where
      go : (is_number (field_at s 2) ≡ false) ⊎ (length (fields_at (drop 2 s)) ≡ 1) → is_head ((71 ∷ []) ∷ fields_at (drop 2 s)) ≡ false
      go (inl n) = fails (head_form ((71 ∷ []) ∷ fields_at (drop 2 s))) 2 n
      go (inr l) = fails (head_form ((71 ∷ []) ∷ fields_at (drop 2 s))) 1 (ne_eqb (suc (length (fields_at (drop 2 s)))) 3 (λ z. omega arith))

  module _ {v a : ℕ} (t : NumberThen s 2 v a) where
    top_fields_lem : fields_at s ≡ (71 ∷ []) ∷ field_at s 2 ∷ fields_at (drop a s)
    top_fields_lem = k.fields ∙ ap (λ (fs : List (List ℕ)). (71 ∷ []) ∷ fs) t.fields

    pub no_conditions : (is_number (field_at s a) ≡ false) ⊎ (2 ≤ length (fields_at (drop a s))) → is_head (fields_at s) ≡ false
    unfolding is_head
    no_conditions h = ap is_head top_fields_lem ∙ go h
      where
        go : (is_number (field_at s a) ≡ false) ⊎ (2 ≤ length (fields_at (drop a s))) → is_head ((71 ∷ []) ∷ field_at s 2 ∷ fields_at (drop a s)) ≡ false
        go (inl n) = fails (head_form ((71 ∷ []) ∷ field_at s 2 ∷ fields_at (drop a s))) 3 n
        go (inr l) =
            fails (head_form ((71 ∷ []) ∷ field_at s 2 ∷ fields_at (drop a s))) 1
            (ne_eqb (suc (suc (length (fields_at (drop a s))))) 3 (λ z. omega arith))

    pub a_head : {w e : ℕ} → NumberLast s a w e → HeadSays s v w e
    unfolding is_head
    a_head l =
        let g : fields_at s ≡ (71 ∷ []) ∷ field_at s 2 ∷ field_at s a ∷ [] =
        top_fields_lem ∙ ap (λ (fs : List (List ℕ)). (71 ∷ []) ∷ field_at s 2 ∷ fs) l.fields in
        record {
          form = ap is_head g ∙ rw (t.number, l.number);
          top = sym (ap (λ (fs : List (List ℕ)). number_in (field fs 1)) g ∙ t.value);
          conditions = sym (ap (λ (fs : List (List ℕ)). number_in (field fs 2)) g ∙ l.value);
          lines = k.lines ∙ t.lines ∙ l.lines;
        }
