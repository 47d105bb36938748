-- The forms of the lines: a line that is written has its form and says what was written, and a line of a form is the text of what it says.
-- Assumes nothing.
use mathlib.Core.Path.{◌≡◌, refl, sym, ◌∙◌, ap, ap₂}
use mathlib.Core.Bool.{Bool, true, false, cond, ◌||◌, false≢true}
use mathlib.Core.List.{List, [], ◌∷◌, map}
use Prim.Native.Nat.{ℕ, suc, ◌≤◌, ◌<◌}
use native.Mathlib.Omega.{arith}
use lib.Dec.{eqb}
use lib.ListN.{length, get_or, drop, length-map}
use borrow.Author.Tests.{eqb-true, leb-true, le-leb}
use Rattle.semantics.specs.Grade.{Op, M, X, L, B, P}
use Rattle.semantics.specs.Page.{Literal, positive, negative, condition_of, Reading, K, W, Line, fact, rule, query, default}
use Rattle.semantics.proofs.Proper.{LiteralsBelow, InRange}
use Rattle.semantics.specs.Text.{field, is_number, number_in, is_negated, is_literal, literal_in, all_literals, is_letter, is_op, op_in, is_reading, reading_in, head_form, is_head, fact_form, is_fact, rule_form, is_rule, query_form, is_query, default_form, is_default, has_form, line_in}
use Rattle.semantics.specs.ReadPage.{literal_ranges, line_ranges}
use Rattle.semantics.specs.Fields.{number_text, reading_letter}
use Rattle.semantics.specs.Written.{literal_text, op_letter, line_fields, head_fields}
use Rattle.semantics.proofs.Soundness.{both_true, every_true}
use Rattle.semantics.proofs.FieldRanges.{NoFault, Sized, fields_in}
use Rattle.semantics.proofs.TextNumbers.{written_number, written_value, first_not, number_back}

-- Letters.
letter_back : (b : ℕ) (f : List ℕ) → is_letter b f ≡ true → b ∷ [] ≡ f
letter_back b f e = let h = both_true (eqb (length f) 1) (eqb (get_or f 0 0) b) e in go f (eqb-true (length f) 1 h.0) (eqb-true (get_or f 0 0) b h.1)
  where
    go : (f : List ℕ) → length f ≡ 1 → get_or f 0 0 ≡ b → b ∷ [] ≡ f
    go [] l z = absurd (omega arith)
    go (x ∷ []) l z = rw z
    go (x ∷ y ∷ f) l z = absurd (omega arith)

op_back : (f : List ℕ) → is_op f ≡ true → op_letter (op_in f) ∷ [] ≡ f
unfolding is_op op_in
op_back f = go (is_letter 77 f) (is_letter 88 f) (is_letter 76 f) (is_letter 66 f) (is_letter 80 f) refl refl refl refl refl
  where
    go : (t u v w x : Bool) → is_letter 77 f ≡ t → is_letter 88 f ≡ u → is_letter 76 f ≡ v → is_letter 66 f ≡ w → is_letter 80 f ≡ x
        → (t || (u || (v || (w || x)))) ≡ true → op_letter (cond t M (cond u X (cond v L (cond w B P)))) ∷ [] ≡ f
    go true u v w x p q r s z h = letter_back 77 f p
    go false true v w x p q r s z h = letter_back 88 f q
    go false false true w x p q r s z h = letter_back 76 f r
    go false false false true x p q r s z h = letter_back 66 f s
    go false false false false true p q r s z h = letter_back 80 f z
    go false false false false false p q r s z h = absurd (false≢true h)

op_written : (op : Op) → (is_op (op_letter op ∷ []) ≡ true) × (op_in (op_letter op ∷ []) ≡ op)
unfolding is_op op_in
op_written M = (refl, refl)
op_written X = (refl, refl)
op_written L = (refl, refl)
op_written B = (refl, refl)
op_written P = (refl, refl)

reading_back : (f : List ℕ) → is_reading f ≡ true → reading_letter (reading_in f) ∷ [] ≡ f
unfolding is_reading reading_in
reading_back f = go (is_letter 75 f) (is_letter 87 f) refl refl
  where
    go : (t u : Bool) → is_letter 75 f ≡ t → is_letter 87 f ≡ u → (t || u) ≡ true → reading_letter (cond t K W) ∷ [] ≡ f
    go true u p q h = letter_back 75 f p
    go false true p q h = letter_back 87 f q
    go false false p q h = absurd (false≢true h)

reading_written : (r : Reading) → (is_reading (reading_letter r ∷ []) ≡ true) × (reading_in (reading_letter r ∷ []) ≡ r)
unfolding is_reading reading_in
reading_written K = (refl, refl)
reading_written W = (refl, refl)

-- Literals.
literal_back : (f : List ℕ) → is_literal f ≡ true → literal_text (literal_in f) ≡ f
unfolding is_literal literal_in
literal_back f = go (is_negated f) refl
  where
    negated : (f : List ℕ) → is_negated f ≡ true → is_number (drop 1 f) ≡ true → 33 ∷ number_text (number_in (drop 1 f)) ≡ f
    negated [] e n = absurd (false≢true e)
    negated (b ∷ f) e n = ap₂ {C = List ℕ} (λ x xs. x ∷ xs) (sym (eqb-true b 33 e)) (number_back f n)

    go : (t : Bool) → is_negated f ≡ t → cond t (is_number (drop 1 f)) (is_number f) ≡ true
        → literal_text (cond t (negative (number_in (drop 1 f))) (positive (number_in f))) ≡ f
    go true e n = negated f e n
    go false e n = number_back f n

literals_back : (fs : List (List ℕ)) → all_literals fs ≡ true → map literal_text (map literal_in fs) ≡ fs
unfolding all_literals
literals_back [] e = refl
literals_back (f ∷ fs) e =
    let h = both_true (is_literal f) (all_literals fs) e in
    ap₂ {C = List (List ℕ)} (λ x xs. x ∷ xs) (literal_back f h.0) (literals_back fs h.1)

literal_written : (l : Literal) → condition_of l < 1000 → (is_literal (literal_text l) ≡ true) × (literal_in (literal_text l) ≡ l)
unfolding is_literal literal_in
literal_written (positive c) h =
    let n = first_not c h 33 (omega arith) in
    (rw (n, written_number c h), rw (n, written_value c h))
literal_written (negative c) h = (written_number c h, rw (written_value c h))

literals_written : (n : ℕ) → n ≤ 1000 → (ls : List Literal) → LiteralsBelow n ls → (all_literals (map literal_text ls) ≡ true) × (map literal_in (map literal_text ls) ≡ ls)
unfolding all_literals
literals_written n m [] w = (refl, refl)
literals_written n m (l ∷ ls) w =
    let h = literal_written l (omega (arith, w.0)) in
    let k = literals_written n m ls w.1 in
    (rw (h.0, k.0), ap₂ {C = List Literal} (λ x xs. x ∷ xs) h.1 k.1)

-- A line of a form is the text of what it says.
pub head_back : (fs : List (List ℕ)) → is_head fs ≡ true → head_fields (number_in (field fs 1)) (number_in (field fs 2)) ≡ fs
unfolding is_head
head_back fs e = let h = every_true (head_form fs) e in go fs (eqb-true (length fs) 3 h.1.0) h.0 h.1.1.0 h.1.1.1.0
  where
    go : (fs : List (List ℕ)) → length fs ≡ 3 → is_letter 71 (field fs 0) ≡ true → is_number (field fs 1) ≡ true → is_number (field fs 2) ≡ true
        → head_fields (number_in (field fs 1)) (number_in (field fs 2)) ≡ fs
    go [] l p a b = absurd (omega arith)
    go (f ∷ []) l p a b = absurd (omega arith)
    go (f ∷ g ∷ []) l p a b = absurd (omega arith)
    go (f ∷ g ∷ h ∷ []) l p a b = rw (number_back g a, number_back h b, letter_back 71 f p)
    go (f ∷ g ∷ h ∷ i ∷ fs) l p a b = absurd (omega arith)

fact_back : (fs : List (List ℕ)) → is_fact fs ≡ true → line_fields (fact (number_in (field fs 1)) (number_in (field fs 2)) (number_in (field fs 3))) ≡ fs
unfolding is_fact
fact_back fs e = let h = every_true (fact_form fs) e in go fs (eqb-true (length fs) 4 h.1.0) h.0 h.1.1.0 h.1.1.1.0 h.1.1.1.1.0
  where
    go : (fs : List (List ℕ)) → length fs ≡ 4 → is_letter 70 (field fs 0) ≡ true → is_number (field fs 1) ≡ true → is_number (field fs 2) ≡ true → is_number (field fs 3) ≡ true
        → line_fields (fact (number_in (field fs 1)) (number_in (field fs 2)) (number_in (field fs 3))) ≡ fs
    go [] l p a b c = absurd (omega arith)
    go (f ∷ []) l p a b c = absurd (omega arith)
    go (f ∷ g ∷ []) l p a b c = absurd (omega arith)
    go (f ∷ g ∷ h ∷ []) l p a b c = absurd (omega arith)
    go (f ∷ g ∷ h ∷ i ∷ []) l p a b c = rw (number_back g a, number_back h b, number_back i c, letter_back 70 f p)
    go (f ∷ g ∷ h ∷ i ∷ j ∷ fs) l p a b c = absurd (omega arith)

rule_back : (fs : List (List ℕ)) → is_rule fs ≡ true → line_fields (rule (number_in (field fs 1)) (number_in (field fs 2)) (op_in (field fs 3)) (map literal_in (drop 4 fs))) ≡ fs
unfolding is_rule
rule_back fs e =
    let h = every_true (rule_form fs) e in
    go fs (leb-true 1 (length (drop 4 fs)) h.1.0) h.0 h.1.1.1.0 h.1.1.1.1.0 h.1.1.1.1.1.0 h.1.1.1.1.1.1.0
  where
    go : (fs : List (List ℕ)) → 1 ≤ length (drop 4 fs) → is_letter 82 (field fs 0) ≡ true → is_number (field fs 1) ≡ true → is_number (field fs 2) ≡ true
        → is_op (field fs 3) ≡ true → all_literals (drop 4 fs) ≡ true
        → line_fields (rule (number_in (field fs 1)) (number_in (field fs 2)) (op_in (field fs 3)) (map literal_in (drop 4 fs))) ≡ fs
    go [] l p a b o w = absurd (omega arith)
    go (f ∷ []) l p a b o w = absurd (omega arith)
    go (f ∷ g ∷ []) l p a b o w = absurd (omega arith)
    go (f ∷ g ∷ h ∷ []) l p a b o w = absurd (omega arith)
    go (f ∷ g ∷ h ∷ i ∷ fs) l p a b o w = rw (number_back g a, number_back h b, op_back i o, literals_back fs w, letter_back 82 f p)

query_back : (fs : List (List ℕ)) → is_query fs ≡ true → line_fields (query (reading_in (field fs 1)) (number_in (field fs 2))) ≡ fs
unfolding is_query
query_back fs e = let h = every_true (query_form fs) e in go fs (eqb-true (length fs) 3 h.1.0) h.0 h.1.1.0 h.1.1.1.0
  where
    go : (fs : List (List ℕ)) → length fs ≡ 3 → is_letter 81 (field fs 0) ≡ true → is_reading (field fs 1) ≡ true → is_number (field fs 2) ≡ true
        → line_fields (query (reading_in (field fs 1)) (number_in (field fs 2))) ≡ fs
    go [] l p a b = absurd (omega arith)
    go (f ∷ []) l p a b = absurd (omega arith)
    go (f ∷ g ∷ []) l p a b = absurd (omega arith)
    go (f ∷ g ∷ h ∷ []) l p a b = rw (reading_back g a, number_back h b, letter_back 81 f p)
    go (f ∷ g ∷ h ∷ i ∷ fs) l p a b = absurd (omega arith)

default_back : (fs : List (List ℕ)) → is_default fs ≡ true → line_fields (default (number_in (field fs 1))) ≡ fs
unfolding is_default
default_back fs e = let h = every_true (default_form fs) e in go fs (eqb-true (length fs) 3 h.1.0) h.0 h.1.1.0 h.1.1.1.0
  where
    go : (fs : List (List ℕ)) → length fs ≡ 3 → is_letter 68 (field fs 0) ≡ true → is_number (field fs 1) ≡ true → is_letter 85 (field fs 2) ≡ true
        → line_fields (default (number_in (field fs 1))) ≡ fs
    go [] l p a b = absurd (omega arith)
    go (f ∷ []) l p a b = absurd (omega arith)
    go (f ∷ g ∷ []) l p a b = absurd (omega arith)
    go (f ∷ g ∷ h ∷ []) l p a b = rw (number_back g a, letter_back 68 f p, letter_back 85 h b)
    go (f ∷ g ∷ h ∷ i ∷ fs) l p a b = absurd (omega arith)

-- Which form a line has.
pub data Form (fs : List (List ℕ)) : Type 0 where
  a_fact : is_fact fs ≡ true → line_in fs ≡ fact (number_in (field fs 1)) (number_in (field fs 2)) (number_in (field fs 3)) → Form fs
  a_rule : is_rule fs ≡ true → line_in fs ≡ rule (number_in (field fs 1)) (number_in (field fs 2)) (op_in (field fs 3)) (map literal_in (drop 4 fs)) → Form fs
  a_query : is_query fs ≡ true → line_in fs ≡ query (reading_in (field fs 1)) (number_in (field fs 2)) → Form fs
  a_default : is_default fs ≡ true → line_in fs ≡ default (number_in (field fs 1)) → Form fs

form_of : (fs : List (List ℕ)) → has_form fs ≡ true → Form fs
unfolding has_form line_in
form_of fs = go (is_fact fs) (is_rule fs) (is_query fs) refl refl refl
  where
    go : (t u v : Bool) → is_fact fs ≡ t → is_rule fs ≡ u → is_query fs ≡ v → (t || (u || (v || is_default fs))) ≡ true → Form fs
    go true u v p q r h = a_fact p (rw p)
    go false true v p q r h = a_rule q (rw (p, q))
    go false false true p q r h = a_query r (rw (p, q, r))
    go false false false p q r h = a_default h (rw (p, q, r))

pub line_back : (fs : List (List ℕ)) → has_form fs ≡ true → line_fields (line_in fs) ≡ fs
line_back fs e = go (form_of fs e)
  where
    go : Form fs → line_fields (line_in fs) ≡ fs
    go (a_fact h l) = rw l (fact_back fs h)
    go (a_rule h l) = rw l (rule_back fs h)
    go (a_query h l) = rw l (query_back fs h)
    go (a_default h l) = rw l (default_back fs h)

-- A line in range that is written has its form and says what was written.
pub head_written : (top n : ℕ) → top < 1000 → n < 1000 → is_head (head_fields top n) ≡ true
unfolding is_head
head_written top n t m = rw (written_number top t, written_number n m)

pub record Says (l : Line) : Type 0 where
  pub form : has_form (line_fields l) ≡ true
  pub line : line_in (line_fields l) ≡ l

pub line_written : (top n : ℕ) → top < 1000 → n ≤ 1000 → (l : Line) → InRange top n l → Says l
unfolding has_form line_in is_fact is_rule is_query is_default
line_written top n t m (fact c l h) w =
    let c' : c < 1000 = omega (arith, w.0) in
    let l' : l < 1000 = omega (arith, w.1, w.2) in
    let h' : h < 1000 = omega (arith, w.2) in
    record {
      form = rw (written_number c c', written_number l l', written_number h h');
      line = rw (written_number c c', written_number l l', written_number h h', written_value c c', written_value l l', written_value h h');
    }
line_written top n t m (rule c v op lits) w =
    let c' : c < 1000 = omega (arith, w.0) in
    let v' : v < 1000 = omega (arith, w.2) in
    let k = literals_written n m lits w.5 in
    let size = length-map lits literal_text in
    let a = le-leb 1 (length lits) w.3 in
    let b = le-leb (length lits) 8 w.4 in
    record {
      form = rw (size, a, b, written_number c c', written_number v v', (op_written op).0, k.0);
      line = rw (size, a, b, written_number c c', written_number v v', (op_written op).0, k.0, written_value c c', written_value v v', (op_written op).1, k.1);
    }
line_written top n t m (query r c) w =
    let c' : c < 1000 = omega (arith, w) in
    record {
      form = rw ((reading_written r).0, written_number c c');
      line = rw ((reading_written r).0, written_number c c', (reading_written r).1, written_value c c');
    }
line_written top n t m (default c) w =
    let c' : c < 1000 = omega (arith, w) in
    record {
      form = rw (written_number c c');
      line = rw (written_value c c');
    }

-- A line of a form whose fields are in range.
rule_size : (fs : List (List ℕ)) → is_rule fs ≡ true → (1 ≤ length (map literal_in (drop 4 fs))) × (length (map literal_in (drop 4 fs)) ≤ 8)
unfolding is_rule
rule_size fs h =
    let w = every_true (rule_form fs) h in
    rw (length-map (drop 4 fs) literal_in) (leb-true 1 (length (drop 4 fs)) w.1.0, leb-true (length (drop 4 fs)) 8 w.1.1.0)

pub sized : (fs : List (List ℕ)) → has_form fs ≡ true → Sized (line_in fs)
sized fs e = go (form_of fs e)
  where
    go : Form fs → Sized (line_in fs)
    go (a_fact h l) = rw l tt
    go (a_rule h l) = rw l (rule_size fs h)
    go (a_query h l) = rw l tt
    go (a_default h l) = rw l tt

pub in_range : (top n : ℕ) (fs : List (List ℕ)) → has_form fs ≡ true → NoFault (line_ranges top n (line_in fs)) → InRange top n (line_in fs)
in_range top n fs e r = fields_in top n (line_in fs) (sized fs e) r

-- The ranges speak of every field of the line, so a place in them is a place in the line.
literals_covered : (n : ℕ) (ls : List Literal) → length (literal_ranges n ls) ≡ length (map literal_text ls)
literals_covered n [] = refl
literals_covered n (l ∷ ls) = ap suc (literals_covered n ls)

ranges_covered : (top n : ℕ) (line : Line) → length (line_ranges top n line) ≡ length (line_fields line)
ranges_covered top n (fact c l h) = refl
ranges_covered top n (rule c w op lits) = ap (λ (k : ℕ). suc (suc (suc (suc k)))) (literals_covered n lits)
ranges_covered top n (query r c) = refl
ranges_covered top n (default c) = refl

pub fields_covered : (top n : ℕ) (fs : List (List ℕ)) → has_form fs ≡ true → length (line_ranges top n (line_in fs)) ≡ length fs
fields_covered top n fs e = ranges_covered top n (line_in fs) ∙ ap length (line_back fs e)
