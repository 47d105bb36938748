-- The literals to the end of a line, one after the other. Assumes nothing.
use Rattle.std.proofs.Common.{Option, Some, None}
use Rattle.std.specs.Option.{option_or}
use mathlib.Core.Path.{◌≡◌, refl, sym, ◌∙◌, ap}
use mathlib.Core.Bool.{Bool, true, false, cond}
use mathlib.Core.List.{List, [], ◌∷◌, map}
use mathlib.Core.Logic.{⊎_elim}
use Prim.Native.Nat.{ℕ, suc, ◌+◌, ◌≤◌, ◌<◌}
use native.Mathlib.Omega.{arith}
use lib.Dec.{ltb, leb}
use lib.ListN.{length, get_or, drop}
use borrow.Author.Tests.{le-leb, lt-leb}
use Rattle.semantics.specs.Text.{is_literal, all_literals, literal_in}
use Rattle.fields.specs.Cursor.{InText, fields_at, field_at, lines_after, class_of, LiteralTo}
use Rattle.fields.proofs.Places.{byte_here, within_next}
use Rattle.fields.proofs.Fields.{some_field, first_here, Comma, comma_after, newline_after}
use Rattle.fields.proofs.Numbers.{and_false, class_end}
use Rattle.lines.specs.Lines.{Ends, far_in, far_with, are_literals, LiteralsTo}

-- k literals stand from the place `at` to the place i
pub record Passed (s : List ℕ) (at k i : ℕ) : Type 0 where
  pub ahead : at ≤ i
  pub place : InText s i
  pub size : length (fields_at (drop at s)) ≡ k + length (fields_at (drop i s))
  pub all : all_literals (fields_at (drop at s)) ≡ all_literals (fields_at (drop i s))
  pub lines : lines_after (drop at s) ≡ lines_after (drop i s)

module _ (s : List ℕ) (at : ℕ) {k i : ℕ} (w : Passed s at k i) where
  -- more than eight
  pub too_many : 8 ≤ k → are_literals (fields_at (drop at s)) ≡ false
  too_many h = rw (lt-leb (length (fields_at (drop at s))) 8 (omega (arith, w.size, some_field (drop i s))))

  -- a field that is no literal
  pub not_literal : is_literal (field_at s i) ≡ false → are_literals (fields_at (drop at s)) ≡ false
  unfolding all_literals
  not_literal e =
      and_false (leb (length (fields_at (drop at s))) 8) (w.all ∙ rw (first_here s i (i + length (field_at s i)) refl, e))

  -- a literal, which ends at the place e
  module _ {e : ℕ} (f : is_literal (field_at s i) ≡ true) (g : i + length (field_at s i) ≡ e) (a : i < e) (p : InText s e) where
    pub passed_more : get_or s e 10 ≡ 44 → Passed s at (k + 1) (e + 1)
    unfolding all_literals
    passed_more m =
        let c : Comma s i e = comma_after s i e g m in
        record {
          ahead = omega (arith, w.ahead);
          place = within_next s e p (λ z. omega arith);
          size = w.size ∙ rw c.fields (omega arith);
          all = w.all ∙ rw (c.fields, f);
          lines = w.lines ∙ c.lines;
        }

    module _ (m : get_or s e 10 ≡ 10) where
      pub last_fields : fields_at (drop i s) ≡ field_at s i ∷ []
      last_fields = (newline_after s i e g m).fields

      pub last_size : length (fields_at (drop at s)) ≡ k + 1
      last_size = omega (arith, w.size, ap length last_fields)

      pub last_all : all_literals (fields_at (drop at s)) ≡ true
      unfolding all_literals
      last_all = w.all ∙ rw (last_fields, f)

      pub last_ends : Ends s at (e + 1)
      last_ends = record { lines = w.lines ∙ (newline_after s i e g m).lines; ahead = omega (arith, w.ahead) }

-- which literal is the first out of range, with one more
far_step : (far : Option ℕ) (k c n : ℕ) (x : Option ℕ) → option_or far (cond (ltb c n) x (Some (suc k))) ≡ option_or (far_with far (suc k) c n) x
unfolding far_with
far_step far k c n x = go far (ltb c n)
  where
    go : (far : Option ℕ) (t : Bool) → option_or far (cond t x (Some (suc k))) ≡ option_or (cond t far (option_or far (Some (suc k)))) x
    go far true = refl
    go None false = refl
    go (Some f) false = refl

far_last : (far : Option ℕ) → option_or far None ≡ far
far_last None = refl
far_last (Some f) = refl

-- k literals have been checked, from the place `at` to the place i; n is the number of conditions
pub record Counting (s : List ℕ) (at n k : ℕ) (far : Option ℕ) (i : ℕ) : Type 0 where
  pub passed : Passed s at k i
  pub first : far_in n 0 (map literal_in (fields_at (drop at s))) ≡ option_or far (far_in n k (map literal_in (fields_at (drop i s))))

module _ (s : List ℕ) (at n : ℕ) {k : ℕ} {far : Option ℕ} {i : ℕ} (w : Counting s at n k far i) {c e : ℕ} (q : LiteralTo s i c e) where
  pub byte_behind : get_or s e 0 ≡ get_or s e 10
  byte_behind = let l : e < length s = q.place.inside in byte_here s e l

  -- another byte than a comma or byte 10 follows
  pub not_ended : (get_or s e 0 ≡ 10 → ⊥) → (get_or s e 0 ≡ 44 → ⊥) → is_literal (field_at s i) ≡ false
  not_ended m l = q.other (λ t. ⊎_elim (λ z. l (byte_behind ∙ z)) (λ z. m (byte_behind ∙ z)) (class_end (get_or s e 10) t))

  module _ (t : class_of (get_or s e 10) ≡ 10) where
    first_on : {rest : List (List ℕ)} → fields_at (drop i s) ≡ field_at s i ∷ rest
        → far_in n 0 (map literal_in (fields_at (drop at s))) ≡ option_or (far_with far (k + 1) c n) (far_in n (k + 1) (map literal_in rest))
    unfolding far_in
    first_on {rest} f =
        let j : k + 1 ≡ suc k = omega arith in
        w.first ∙ rw (f, (q.ends t).condition, j) (far_step far k c n (far_in n (suc k) (map literal_in rest)))

    -- a comma follows
    pub counting_more : get_or s e 10 ≡ 44 → Counting s at n (k + 1) (far_with far (k + 1) c n) (e + 1)
    counting_more m =
        let l = q.ends t in
        record { passed = passed_more s at w.passed l.literal l.end q.ahead q.place m; first = first_on (comma_after s i e l.end m).fields }

    -- the line ends
    pub counting_last : k < 8 → get_or s e 10 ≡ 10 → LiteralsTo s at n (k + 1) (far_with far (k + 1) c n) (e + 1)
    unfolding far_in
    counting_last h m =
        let l = q.ends t in
        let size = last_size s at w.passed l.literal l.end q.ahead q.place m in
        record {
          form = rw (size, le-leb (k + 1) 8 (omega arith), last_all s at w.passed l.literal l.end q.ahead q.place m);
          count = sym size;
          first = sym (first_on (last_fields s at w.passed l.literal l.end q.ahead q.place m) ∙ far_last (far_with far (k + 1) c n));
          ends = last_ends s at w.passed l.literal l.end q.ahead q.place m;
        }
