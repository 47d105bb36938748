-- The letter and the two numbers with which a fact and a rule begin. Assumes nothing.
use mathlib.Core.Path.{◌≡◌, ◌∙◌, ap}
use mathlib.Core.Bool.{false}
use mathlib.Core.List.{List, [], ◌∷◌}
use mathlib.Core.Logic.{◌⊎◌, inl, inr}
use Prim.Native.Nat.{ℕ, suc, ◌+◌}
use native.Mathlib.Omega.{arith}
use lib.ListN.{length, get_or, drop}
use borrow.Author.Tests.{lt-leb}
use Rattle.semantics.specs.Area.{every}
use Rattle.semantics.specs.Text.{is_number, has_form}
use Rattle.semantics.proofs.TestLists.{fails}
use Rattle.fields.specs.Cursor.{fields_at, field_at}
use Rattle.fields.proofs.Letters.{Plain, plain, LetterThen}
use Rattle.fields.proofs.Tokens.{NumberThen}
use Rattle.lines.specs.Lines.{PairLetter, PairThen}
use Rattle.lines.proofs.Forms.{pair_tests, no_fact, no_rule}

pub pair_plain : {x : ℕ} → PairLetter x → Plain x
pair_plain {x} (inl e) = plain x (omega (arith, e))
pair_plain {x} (inr e) = plain x (omega (arith, e))

module _ (s : List ℕ) (at : ℕ) (p : PairLetter (get_or s at 10)) (k : LetterThen s at (get_or s at 10)) where
  no_pair : every (pair_tests (fields_at (drop (at + 2) s))) ≡ false → has_form (fields_at (drop at s)) ≡ false
  no_pair h = go p
    where
      go : PairLetter (get_or s at 10) → has_form (fields_at (drop at s)) ≡ false
      go (inl e) = ap has_form (k.fields ∙ ap (λ (x : ℕ). (x ∷ []) ∷ fields_at (drop (at + 2) s)) e) ∙ no_fact (fields_at (drop (at + 2) s)) h
      go (inr e) = ap has_form (k.fields ∙ ap (λ (x : ℕ). (x ∷ []) ∷ fields_at (drop (at + 2) s)) e) ∙ no_rule (fields_at (drop (at + 2) s)) h

  pub no_first : (is_number (field_at s (at + 2)) ≡ false) ⊎ (length (fields_at (drop (at + 2) s)) ≡ 1) → has_form (fields_at (drop at s)) ≡ false
  no_first (inl n) = no_pair (fails (pair_tests (fields_at (drop (at + 2) s))) 0 n)
  no_first (inr l) = no_pair (fails (pair_tests (fields_at (drop (at + 2) s))) 2 (lt-leb 3 (length (fields_at (drop (at + 2) s))) (omega arith)))

  module _ {v a : ℕ} (h : NumberThen s (at + 2) v a) where
    pub no_second : (is_number (field_at s a) ≡ false) ⊎ (length (fields_at (drop a s)) ≡ 1) → has_form (fields_at (drop at s)) ≡ false
    no_second (inl n) = no_pair (rw h.fields (fails (pair_tests (field_at s (at + 2) ∷ fields_at (drop a s))) 1 n))
    no_second (inr l) =
        no_pair (rw h.fields (fails (pair_tests (field_at s (at + 2) ∷ fields_at (drop a s))) 2 (lt-leb 3 (suc (length (fields_at (drop a s)))) (omega arith))))

    pub pair_then : {w e : ℕ} → NumberThen s a w e → PairThen s at v w e
    pair_then {w} {e} n =
        record {
          f = field_at s (at + 2);
          g = field_at s a;
          fields = k.fields ∙ ap (λ (fs : List (List ℕ)). (get_or s at 10 ∷ []) ∷ fs) (h.fields ∙ ap (λ (fs : List (List ℕ)). field_at s (at + 2) ∷ fs) n.fields);
          first = h.number;
          second = n.number;
          value = h.value;
          value' = n.value;
          lines = k.lines ∙ h.lines ∙ n.lines;
          ahead = omega (arith, h.ahead, n.ahead);
          place = n.place;
        }
