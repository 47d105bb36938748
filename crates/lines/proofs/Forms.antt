-- The forms of the lines, by what the parser has read of them. Assumes nothing.
use Rattle.std.proofs.Common.{Option, Some, None}
use mathlib.Core.Path.{◌≡◌, refl, sym, ◌∙◌, ap}
use mathlib.Core.Bool.{Bool, true, false, cond, ◌&&◌, ◌||◌, false≢true}
use mathlib.Core.List.{List, [], ◌∷◌, map}
use mathlib.Core.Logic.{◌⊎◌, inl, inr, ⊎_elim}
use Prim.Native.Nat.{ℕ, suc, ◌+◌, ◌≤◌}
use native.Mathlib.Omega.{arith}
use lib.Dec.{leb}
use lib.ListN.{length, get_or, drop, length-drop, length-map}
use borrow.Author.Tests.{ne_eqb, eqb-true, le-leb, lt-leb, leb-true}
use Rattle.semantics.specs.Area.{every, code_of, line_code}
use Rattle.semantics.specs.Page.{Reading, K, W, fact, rule, query, default}
use Rattle.semantics.specs.Text.{field, is_number, number_in, is_letter, is_op, op_in, is_reading, reading_in, literal_in, all_literals, fact_form, is_fact, rule_form, is_rule, query_form, is_query, default_form, is_default, has_form, line_in}
use Rattle.semantics.proofs.TestLists.{fails, passes}
use Rattle.fields.specs.Cursor.{InText, fields_at, field_at, letter_then}
use Rattle.fields.proofs.Tokens.{NumberThen, NumberLast}
use Rattle.fields.proofs.Fields.{some_field}
use Rattle.fields.proofs.Letters.{LetterThen, LetterLast, letter_absent, letter_or}
use Rattle.lines.specs.Lines.{Ends, Says, PairThen, are_literals, LiteralsTo, RuleSays, kind_at, reading_at}
use Rattle.lines.proofs.LetterCodes.{op_one, op_known, op_none, reading_one, reading_known, reading_none}

or_false : (t : Bool) → (t || false) ≡ t
or_false true = refl
or_false false = refl

pub and_true : (t : Bool) → (t && true) ≡ t
and_true true = refl
and_true false = refl

unless : (t : Bool) → (t ≡ true → ⊥) → t ≡ false
unless true h = absurd (h refl)
unless false h = refl

-- how long the entry of a line is
pub query_size : (r : Reading) (c : ℕ) → length (line_code (query r c)) ≡ 4
query_size K c = refl
query_size W c = refl

pub form_size : (fs : List (List ℕ)) → has_form fs ≡ true → (length (line_code (line_in fs)) ≡ 4 + length (drop 4 fs)) × (length (drop 4 fs) ≤ 8)
unfolding has_form line_in is_fact is_rule is_query is_default
form_size fs = go (every (fact_form fs)) (every (rule_form fs)) (every (query_form fs)) (every (default_form fs)) refl refl refl refl
  where
    go : (t u v w : Bool) → every (fact_form fs) ≡ t → every (rule_form fs) ≡ u → every (query_form fs) ≡ v → every (default_form fs) ≡ w → (t || (u || (v || w))) ≡ true
        → (length
        (line_code
        (cond t (fact (number_in (field fs 1)) (number_in (field fs 2)) (number_in (field fs 3)))
        (cond u (rule (number_in (field fs 1)) (number_in (field fs 2)) (op_in (field fs 3)) (map literal_in (drop 4 fs)))
        (cond v (query (reading_in (field fs 1)) (number_in (field fs 2))) (default (number_in (field fs 1)))))))
        ≡ 4 + length (drop 4 fs))
        × (length (drop 4 fs) ≤ 8)
    go true u v w p q r d h =
        let l : length fs ≡ 4 = eqb-true (length fs) 4 (passes (fact_form fs) 1 p) in
        (omega (arith, length-drop 4 fs), omega (arith, length-drop 4 fs))
    go false true v w p q r d h = (omega (arith, length-map (map literal_in (drop 4 fs)) code_of, length-map (drop 4 fs) literal_in), leb-true (length (drop 4 fs)) 8 (passes (rule_form fs) 2 q))
    go false false true w p q r d h =
        let l : length fs ≡ 3 = eqb-true (length fs) 3 (passes (query_form fs) 1 r) in
        (omega (arith, length-drop 4 fs, query_size (reading_in (field fs 1)) (number_in (field fs 2))), omega (arith, length-drop 4 fs))
    go false false false true p q r d h =
        let l : length fs ≡ 3 = eqb-true (length fs) 3 (passes (default_form fs) 1 d) in
        (omega (arith, length-drop 4 fs), omega (arith, length-drop 4 fs))
    go false false false false p q r d h = absurd (false≢true h)

-- two numbers, and another field behind them
abbrev pub pair_tests : List (List ℕ) → List Bool
pair_tests fs = is_number (field fs 0) ∷ is_number (field fs 1) ∷ leb 3 (length fs) ∷ []

-- A fact: `F`, and the fields gs.
module _ (gs : List (List ℕ)) where
  pub fact_form_lem : has_form ((70 ∷ []) ∷ gs) ≡ is_fact ((70 ∷ []) ∷ gs)
  unfolding has_form is_rule is_query is_default
  fact_form_lem = or_false (is_fact ((70 ∷ []) ∷ gs))

  pub no_fact : every (pair_tests gs) ≡ false → has_form ((70 ∷ []) ∷ gs) ≡ false
  unfolding is_fact
  no_fact h =
      let ts = fact_form ((70 ∷ []) ∷ gs) in
      fact_form_lem
      ∙ unless (is_fact ((70 ∷ []) ∷ gs))
      (λ e.
      let l : suc (length gs) ≡ 4 = eqb-true (suc (length gs)) 4 (passes ts 1 e) in
      let ok : every (pair_tests gs) ≡ true = rw (passes ts 2 e, passes ts 3 e) (rw (le-leb 3 (length gs) (omega arith))) in
      false≢true (sym h ∙ ok))

module _ (s : List ℕ) (at : ℕ) (x : get_or s at 10 ≡ 70) {v w b : ℕ} (k : PairThen s at v w b) where
  two_fields : fields_at (drop at s) ≡ (70 ∷ []) ∷ k.f ∷ k.g ∷ fields_at (drop b s)
  two_fields = k.fields ∙ ap (λ (y : ℕ). (y ∷ []) ∷ k.f ∷ k.g ∷ fields_at (drop b s)) x

  pub no_high : (is_number (field_at s b) ≡ false) ⊎ (2 ≤ length (fields_at (drop b s))) → has_form (fields_at (drop at s)) ≡ false
  unfolding is_fact
  no_high h = rw (two_fields, fact_form_lem (k.f ∷ k.g ∷ fields_at (drop b s))) (go h)
    where
      go : (is_number (field_at s b) ≡ false) ⊎ (2 ≤ length (fields_at (drop b s))) → is_fact ((70 ∷ []) ∷ k.f ∷ k.g ∷ fields_at (drop b s)) ≡ false
      go (inl n) = fails (fact_form ((70 ∷ []) ∷ k.f ∷ k.g ∷ fields_at (drop b s))) 4 n
      go (inr l) =
          fails (fact_form ((70 ∷ []) ∷ k.f ∷ k.g ∷ fields_at (drop b s))) 1
          (ne_eqb (suc (suc (suc (length (fields_at (drop b s)))))) 4 (λ z. omega arith))

  module _ {h e : ℕ} (l : NumberLast s b h e) where
    fact_fields : fields_at (drop at s) ≡ (70 ∷ []) ∷ k.f ∷ k.g ∷ field_at s b ∷ []
    fact_fields = two_fields ∙ ap (λ (fs : List (List ℕ)). (70 ∷ []) ∷ k.f ∷ k.g ∷ fs) l.fields

    is_fact_lem : is_fact ((70 ∷ []) ∷ k.f ∷ k.g ∷ field_at s b ∷ []) ≡ true
    unfolding is_fact
    is_fact_lem = rw (k.first, k.second, l.number)

    fact_line : line_in ((70 ∷ []) ∷ k.f ∷ k.g ∷ field_at s b ∷ []) ≡ fact v w h
    unfolding line_in
    fact_line = rw (is_fact_lem, k.value, k.value', l.value)

    pub a_fact : Says s at (fact v w h) e
    a_fact =
        record {
          form = ap has_form fact_fields ∙ fact_form_lem (k.f ∷ k.g ∷ field_at s b ∷ []) ∙ is_fact_lem;
          is = ap line_in fact_fields ∙ fact_line;
          ends = record { lines = k.lines ∙ l.lines; ahead = omega (arith, k.ahead, l.ahead) };
        }

-- A query: `Q`, and the fields gs.
module _ (gs : List (List ℕ)) where
  pub query_form_lem : has_form ((81 ∷ []) ∷ gs) ≡ is_query ((81 ∷ []) ∷ gs)
  unfolding has_form is_fact is_rule is_default
  query_form_lem = or_false (is_query ((81 ∷ []) ∷ gs))

  no_reading : None ≡ reading_at (letter_then gs) → has_form ((81 ∷ []) ∷ gs) ≡ false
  unfolding is_query
  no_reading h = query_form_lem ∙ go (letter_absent is_reading reading_one gs (reading_none (letter_then gs) h))
    where
      go : (is_reading (field gs 0) ≡ false) ⊎ (length gs ≤ 1) → is_query ((81 ∷ []) ∷ gs) ≡ false
      go (inl n) = fails (query_form ((81 ∷ []) ∷ gs)) 2 n
      go (inr l) = fails (query_form ((81 ∷ []) ∷ gs)) 1 (ne_eqb (suc (length gs)) 3 (λ z. omega arith))

module _ (s : List ℕ) (at : ℕ) (k₀ : LetterThen s at 81) where
  pub no_reading_letter : None ≡ reading_at (letter_then (fields_at (drop (at + 2) s))) → has_form (fields_at (drop at s)) ≡ false
  no_reading_letter h = rw k₀.fields (no_reading (fields_at (drop (at + 2) s)) h)

  module _ {r : ℕ} (m : LetterThen s (at + 2) r) where
    four : at + 2 + 2 ≡ at + 4
    four = omega arith

    pub query_place : InText s (at + 4)
    query_place = rw four at m.place

    letters : fields_at (drop at s) ≡ (81 ∷ []) ∷ (r ∷ []) ∷ fields_at (drop (at + 4) s)
    letters = k₀.fields ∙ ap (λ (fs : List (List ℕ)). (81 ∷ []) ∷ fs) (rw four at m.fields)

    pub no_query : (is_number (field_at s (at + 4)) ≡ false) ⊎ (2 ≤ length (fields_at (drop (at + 4) s))) → has_form (fields_at (drop at s)) ≡ false
    unfolding is_query
    no_query h = rw (letters, query_form_lem ((r ∷ []) ∷ fields_at (drop (at + 4) s))) (go h)
      where
        go : (is_number (field_at s (at + 4)) ≡ false) ⊎ (2 ≤ length (fields_at (drop (at + 4) s))) → is_query ((81 ∷ []) ∷ (r ∷ []) ∷ fields_at (drop (at + 4) s)) ≡ false
        go (inl n) = fails (query_form ((81 ∷ []) ∷ (r ∷ []) ∷ fields_at (drop (at + 4) s))) 3 n
        go (inr l) =
            fails (query_form ((81 ∷ []) ∷ (r ∷ []) ∷ fields_at (drop (at + 4) s))) 1
            (ne_eqb (suc (suc (length (fields_at (drop (at + 4) s))))) 3 (λ z. omega arith))

    module _ {k : ℕ} (n : Some k ≡ reading_at r) {v e : ℕ} (l : NumberLast s (at + 4) v e) where
      query_fields : fields_at (drop at s) ≡ (81 ∷ []) ∷ (r ∷ []) ∷ field_at s (at + 4) ∷ []
      query_fields = letters ∙ ap (λ (fs : List (List ℕ)). (81 ∷ []) ∷ (r ∷ []) ∷ fs) l.fields

      is_query_lem : is_query ((81 ∷ []) ∷ (r ∷ []) ∷ field_at s (at + 4) ∷ []) ≡ true
      unfolding is_query
      is_query_lem = rw ((reading_known r n).0, l.number)

      query_line : line_in ((81 ∷ []) ∷ (r ∷ []) ∷ field_at s (at + 4) ∷ []) ≡ query (reading_in (r ∷ [])) v
      unfolding line_in is_fact is_rule
      query_line = rw (is_query_lem, l.value)

      pub query_codes : v ∷ 6 ∷ k ∷ 0 ∷ [] ≡ line_code (query (reading_in (r ∷ [])) v)
      query_codes = (reading_known r n).1 v

      pub a_query : Says s at (query (reading_in (r ∷ [])) v) e
      a_query =
          record {
            form = ap has_form query_fields ∙ query_form_lem ((r ∷ []) ∷ field_at s (at + 4) ∷ []) ∙ is_query_lem;
            is = ap line_in query_fields ∙ query_line;
            ends = record {
              lines = k₀.lines ∙ m.lines ∙ rw four l.lines;
              ahead = omega (arith, l.ahead);
            };
          }

-- A D line: `D`, and the fields gs.
module _ (gs : List (List ℕ)) where
  pub default_form_lem : has_form ((68 ∷ []) ∷ gs) ≡ is_default ((68 ∷ []) ∷ gs)
  unfolding has_form is_fact is_rule is_query
  default_form_lem = refl

module _ (s : List ℕ) (at : ℕ) (k : LetterThen s at 68) where
  pub no_default : (is_number (field_at s (at + 2)) ≡ false) ⊎ (length (fields_at (drop (at + 2) s)) ≡ 1) → has_form (fields_at (drop at s)) ≡ false
  unfolding is_default
  no_default h = rw (k.fields, default_form_lem (fields_at (drop (at + 2) s))) (go h)
    where
      go : (is_number (field_at s (at + 2)) ≡ false) ⊎ (length (fields_at (drop (at + 2) s)) ≡ 1) → is_default ((68 ∷ []) ∷ fields_at (drop (at + 2) s)) ≡ false
      go (inl n) = fails (default_form ((68 ∷ []) ∷ fields_at (drop (at + 2) s))) 2 n
      go (inr l) = fails (default_form ((68 ∷ []) ∷ fields_at (drop (at + 2) s))) 1 (ne_eqb (suc (length (fields_at (drop (at + 2) s)))) 3 (λ z. omega arith))

  module _ {v b : ℕ} (c : NumberThen s (at + 2) v b) where
    condition_fields : fields_at (drop at s) ≡ (68 ∷ []) ∷ field_at s (at + 2) ∷ fields_at (drop b s)
    condition_fields = k.fields ∙ ap (λ (fs : List (List ℕ)). (68 ∷ []) ∷ fs) c.fields

    pub no_unknown : (is_letter 85 (field_at s b) ≡ false) ⊎ (2 ≤ length (fields_at (drop b s))) → has_form (fields_at (drop at s)) ≡ false
    unfolding is_default
    no_unknown h = rw (condition_fields, default_form_lem (field_at s (at + 2) ∷ fields_at (drop b s))) (go h)
      where
        go : (is_letter 85 (field_at s b) ≡ false) ⊎ (2 ≤ length (fields_at (drop b s))) → is_default ((68 ∷ []) ∷ field_at s (at + 2) ∷ fields_at (drop b s)) ≡ false
        go (inl n) = fails (default_form ((68 ∷ []) ∷ field_at s (at + 2) ∷ fields_at (drop b s))) 3 n
        go (inr l) =
            fails (default_form ((68 ∷ []) ∷ field_at s (at + 2) ∷ fields_at (drop b s))) 1
            (ne_eqb (suc (suc (length (fields_at (drop b s))))) 3 (λ z. omega arith))

    module _ (l : LetterLast s b 85) where
      default_fields : fields_at (drop at s) ≡ (68 ∷ []) ∷ field_at s (at + 2) ∷ (85 ∷ []) ∷ []
      default_fields = condition_fields ∙ ap (λ (fs : List (List ℕ)). (68 ∷ []) ∷ field_at s (at + 2) ∷ fs) l.fields

      is_default_lem : is_default ((68 ∷ []) ∷ field_at s (at + 2) ∷ (85 ∷ []) ∷ []) ≡ true
      unfolding is_default
      is_default_lem = rw c.number

      default_line : line_in ((68 ∷ []) ∷ field_at s (at + 2) ∷ (85 ∷ []) ∷ []) ≡ default v
      unfolding line_in is_fact is_rule is_query
      default_line = rw c.value

      pub a_default : Says s at (default v) (b + 2)
      a_default =
          record {
            form = ap has_form default_fields ∙ default_form_lem (field_at s (at + 2) ∷ (85 ∷ []) ∷ []) ∙ is_default_lem;
            is = ap line_in default_fields ∙ default_line;
            ends = record { lines = k.lines ∙ c.lines ∙ l.lines; ahead = omega (arith, c.ahead) };
          }

-- A rule: `R`, and the fields gs.
module _ (gs : List (List ℕ)) where
  pub rule_form_lem : has_form ((82 ∷ []) ∷ gs) ≡ is_rule ((82 ∷ []) ∷ gs)
  unfolding has_form is_fact is_query is_default
  rule_form_lem = or_false (is_rule ((82 ∷ []) ∷ gs))

  pub no_rule : every (pair_tests gs) ≡ false → has_form ((82 ∷ []) ∷ gs) ≡ false
  unfolding is_rule
  no_rule h =
      let ts = rule_form ((82 ∷ []) ∷ gs) in
      rule_form_lem
      ∙ unless (is_rule ((82 ∷ []) ∷ gs))
      (λ e.
      let l : 1 ≤ length (drop 3 gs) = leb-true 1 (length (drop 3 gs)) (passes ts 1 e) in
      let ok : every (pair_tests gs) ≡ true = rw (passes ts 3 e, passes ts 4 e) (rw (le-leb 3 (length gs) (omega (arith, length-drop 3 gs)))) in
      false≢true (sym h ∙ ok))

-- the fields of a rule behind its condition and weight: an op letter and 1 to 8 literals
abbrev pub rest_tests : List (List ℕ) → List Bool
rest_tests gs = leb 1 (length (drop 1 gs)) ∷ leb (length (drop 1 gs)) 8 ∷ is_op (field gs 0) ∷ all_literals (drop 1 gs) ∷ []

no_rest : (gs : List (List ℕ)) → None ≡ kind_at (letter_then gs) → every (rest_tests gs) ≡ false
no_rest gs h = go (letter_absent is_op op_one gs (op_none (letter_then gs) h))
  where
    go : (is_op (field gs 0) ≡ false) ⊎ (length gs ≤ 1) → every (rest_tests gs) ≡ false
    go (inl n) = fails (rest_tests gs) 2 n
    go (inr l) = fails (rest_tests gs) 0 (lt-leb 1 (length (drop 1 gs)) (omega (arith, length-drop 1 gs)))

module _ (s : List ℕ) (at : ℕ) (x : get_or s at 10 ≡ 82) {v w b : ℕ} (k : PairThen s at v w b) where
  rule_fields : fields_at (drop at s) ≡ (82 ∷ []) ∷ k.f ∷ k.g ∷ fields_at (drop b s)
  rule_fields = k.fields ∙ ap (λ (y : ℕ). (y ∷ []) ∷ k.f ∷ k.g ∷ fields_at (drop b s)) x

  is_rule_lem : is_rule ((82 ∷ []) ∷ k.f ∷ k.g ∷ fields_at (drop b s)) ≡ every (rest_tests (fields_at (drop b s)))
  unfolding is_rule
  is_rule_lem = rw (k.first, k.second)

  pub has_rule : has_form (fields_at (drop at s)) ≡ every (rest_tests (fields_at (drop b s)))
  has_rule = ap has_form rule_fields ∙ rule_form_lem (k.f ∷ k.g ∷ fields_at (drop b s)) ∙ is_rule_lem

  -- no op letter
  pub no_op : None ≡ kind_at (letter_then (fields_at (drop b s))) → has_form (fields_at (drop at s)) ≡ false
  no_op h = has_rule ∙ no_rest (fields_at (drop b s)) h

  module _ {r : ℕ} (o : LetterThen s b r) {i : ℕ} (n : Some i ≡ kind_at r) where
    rest_form : every (rest_tests (fields_at (drop b s))) ≡ are_literals (fields_at (drop (b + 2) s))
    rest_form =
        let hs = fields_at (drop (b + 2) s) in
        rw (o.fields, le-leb 1 (length hs) (some_field (drop (b + 2) s)), (op_known r n).0, and_true (all_literals hs))

    pub literals_form : has_form (fields_at (drop at s)) ≡ are_literals (fields_at (drop (b + 2) s))
    literals_form = has_rule ∙ rest_form

    -- 1 to 8 literals
    module _ (t : are_literals (fields_at (drop (b + 2) s)) ≡ true) where
      rule_line : line_in (fields_at (drop at s)) ≡ rule v w (op_in (r ∷ [])) (map literal_in (fields_at (drop (b + 2) s)))
      unfolding line_in is_fact
      rule_line = ap line_in rule_fields ∙ rw (is_rule_lem, rest_form, t, k.value, k.value') (rw o.fields)

      pub a_rule : {next : ℕ} → Ends s (b + 2) next → Says s at (rule v w (op_in (r ∷ [])) (map literal_in (fields_at (drop (b + 2) s)))) next
      a_rule e =
          record {
            form = literals_form ∙ t;
            is = rule_line;
            ends = record { lines = k.lines ∙ o.lines ∙ e.lines; ahead = omega (arith, k.ahead, e.ahead) };
          }

    pub rule_says : {c m : ℕ} {far : Option ℕ} {next : ℕ} → LiteralsTo s (b + 2) c m far next → RuleSays s at c v w m far next
    rule_says l =
        record {
          op = op_in (r ∷ []);
          literals = map literal_in (fields_at (drop (b + 2) s));
          says = a_rule l.form l.ends;
          count = l.count ∙ sym (length-map (fields_at (drop (b + 2) s)) literal_in);
          first = l.first;
        }

-- A line that begins with none of the letters.
no_line : (fs : List (List ℕ)) → (letter_then fs ≡ 70 → ⊥) → (letter_then fs ≡ 82 → ⊥) → (letter_then fs ≡ 81 → ⊥) → (letter_then fs ≡ 68 → ⊥) → has_form fs ≡ false
unfolding has_form is_fact is_rule is_query is_default
no_line fs a b d u =
    let x = letter_then fs in
    rw (
      go_fact (letter_absent (is_letter 70) (λ f. refl) fs (ne_eqb x 70 a)),
      go_rule (letter_absent (is_letter 82) (λ f. refl) fs (ne_eqb x 82 b)),
      go_query (letter_absent (is_letter 81) (λ f. refl) fs (ne_eqb x 81 d)),
      go_default (letter_absent (is_letter 68) (λ f. refl) fs (ne_eqb x 68 u)),
    )
  where
    go_fact : (is_letter 70 (field fs 0) ≡ false) ⊎ (length fs ≤ 1) → is_fact fs ≡ false
    go_fact (inl n) = fails (fact_form fs) 0 n
    go_fact (inr l) = fails (fact_form fs) 1 (ne_eqb (length fs) 4 (λ z. omega arith))

    go_rule : (is_letter 82 (field fs 0) ≡ false) ⊎ (length fs ≤ 1) → is_rule fs ≡ false
    go_rule (inl n) = fails (rule_form fs) 0 n
    go_rule (inr l) = fails (rule_form fs) 1 (lt-leb 1 (length (drop 4 fs)) (omega (arith, length-drop 4 fs)))

    go_query : (is_letter 81 (field fs 0) ≡ false) ⊎ (length fs ≤ 1) → is_query fs ≡ false
    go_query (inl n) = fails (query_form fs) 0 n
    go_query (inr l) = fails (query_form fs) 1 (ne_eqb (length fs) 3 (λ z. omega arith))

    go_default : (is_letter 68 (field fs 0) ≡ false) ⊎ (length fs ≤ 1) → is_default fs ≡ false
    go_default (inl n) = fails (default_form fs) 0 n
    go_default (inr l) = fails (default_form fs) 1 (ne_eqb (length fs) 3 (λ z. omega arith))

pub gone_line : (fs : List (List ℕ)) → letter_then fs ≡ 0 → has_form fs ≡ false
gone_line fs e = no_line fs (λ z. omega arith) (λ z. omega arith) (λ z. omega arith) (λ z. omega arith)

pub other_line : (s : List ℕ) (at : ℕ) → (get_or s at 10 ≡ 70 → ⊥) → (get_or s at 10 ≡ 82 → ⊥) → (get_or s at 10 ≡ 81 → ⊥) → (get_or s at 10 ≡ 68 → ⊥) → has_form (fields_at (drop at s)) ≡ false
other_line s at a b d u =
    let fs = fields_at (drop at s) in
    ⊎_elim (λ (e : letter_then fs ≡ get_or s at 10). no_line fs (λ z. a (sym e ∙ z)) (λ z. b (sym e ∙ z)) (λ z. d (sym e ∙ z)) (λ z. u (sym e ∙ z)))
    (λ (e : letter_then fs ≡ 0). gone_line fs e)
    (letter_or s at)
