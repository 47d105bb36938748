-- A line that is known to have a form: what stands at its places. Assumes nothing.
use Rattle.std.proofs.Common.{Option, Some, None}
use mathlib.Core.Path.{◌≡◌, refl, sym, ◌∙◌, ap}
use mathlib.Core.Bool.{Bool, true, false, false≢true}
use mathlib.Core.List.{List, [], ◌∷◌, map, map-map}
use mathlib.Core.Logic.{◌⊎◌, inl, inr}
use Prim.Native.Nat.{ℕ, ◌+◌, ◌≤◌}
use native.Mathlib.Omega.{arith}
use native.Mathlib.Decide.{ℕ_discrete}
use lib.Dec.{leb}
use lib.ListN.{length, get_or, drop, length-map}
use Rattle.semantics.specs.Area.{code_of, line_code}
use Rattle.semantics.specs.Page.{Line, fact, rule, query, default}
use Rattle.semantics.specs.Text.{is_number, op_in, reading_in, literal_in, all_literals, has_form}
use Rattle.semantics.proofs.Soundness.{both_true}
use Rattle.fields.specs.Cursor.{InText, fields_at, field_at, letter_then, NumberTo}
use Rattle.fields.proofs.Fields.{some_field}
use Rattle.fields.proofs.Letters.{Plain, plain, LetterThen, letter_here, letter_gone, letter_last, no_letter_last}
use Rattle.fields.proofs.Tokens.{NumberThen, NumberLast, number_more, number_only}
use Rattle.lines.specs.Lines.{Ends, Says, PairLetter, PairThen, are_literals, kind_at, reading_at}
use Rattle.lines.proofs.LetterCodes.{op_known, kind_plain, zero_kind, none_kind, reading_plain, zero_reading, none_reading}
use Rattle.lines.proofs.Forms.{gone_line, other_line, form_size, no_high, a_fact, no_op, literals_form, a_rule, no_reading_letter, query_place, no_query, query_codes, a_query, no_default, no_unknown, a_default}
use Rattle.lines.proofs.Pairs.{pair_plain, no_first, no_second, pair_then}
use Rattle.reader.specs.Entries.{Formed, LineFits, Put, LinePut, code_in}

-- neither of two causes holds where what follows from them does not
pub neither : {P : Type 0} {t f : Bool} → ((t ≡ false) ⊎ P → f ≡ false) → f ≡ true → (t ≡ true) × (P → ⊥)
neither {P} {t} {f} h e = (go t refl, λ p. false≢true (sym (h (inr p)) ∙ e))
  where
    go : (u : Bool) → t ≡ u → t ≡ true
    go true p = p
    go false p = absurd (false≢true (sym (h (inl p)) ∙ e))

-- an option that is not none
some_of : (o : Option ℕ) → (None ≡ o → ⊥) → (k : ℕ) × (Some k ≡ o)
some_of None n = absurd (n refl)
some_of (Some k) n = (k, refl)

-- a letter with a comma behind it, where there is one
pub letter_unless : (s : List ℕ) (at : ℕ) → InText s at → {x : ℕ} → get_or s at 10 ≡ x → Plain x → (letter_then (fields_at (drop at s)) ≡ 0 → ⊥) → LetterThen s at x
letter_unless s at p {x} b l n = go (ℕ_discrete (get_or s (at + 1) 0) 44)
  where
    go : Dec (get_or s (at + 1) 0 ≡ 44) → LetterThen s at x
    go (yes e) = letter_here s at p b l e
    go (no m) = absurd (n (letter_gone s at p b l m))

module _ (s : List ℕ) (at : ℕ) (w : Formed s at) where
  never : has_form (fields_at (drop at s)) ≡ false → ⊥
  never e = false≢true (sym e ∙ w.form)

  first_letter : {x : ℕ} → get_or s at 10 ≡ x → Plain x → LetterThen s at x
  first_letter b l = letter_unless s at w.place b l (λ z. never (gone_line (fields_at (drop at s)) z))

  -- The two numbers of a fact and of a rule.
  module _ (p : PairLetter (get_or s at 10)) where
    pair_letter : LetterThen s at (get_or s at 10)
    pair_letter = first_letter refl (pair_plain p)

    pub first_place : InText s (at + 2)
    first_place = pair_letter.place

    pub first_known : (is_number (field_at s (at + 2)) ≡ true) × (length (fields_at (drop (at + 2) s)) ≡ 1 → ⊥)
    first_known = neither (no_first s at p pair_letter) w.form

    module _ {v e : ℕ} (n : NumberTo s (at + 2) v e) where
      first_then : NumberThen s (at + 2) v (e + 1)
      first_then =
          let m : length (fields_at (drop (at + 2) s)) ≡ 1 → ⊥ = first_known.1 in
          number_more s (at + 2) first_place n (omega (arith, some_field (drop (at + 2) s)))

      pub second_place : InText s (e + 1)
      second_place = first_then.place

      pub second_known : (is_number (field_at s (e + 1)) ≡ true) × (length (fields_at (drop (e + 1) s)) ≡ 1 → ⊥)
      second_known = neither (no_second s at p pair_letter first_then) w.form

      pub pair_known : {u d : ℕ} → NumberTo s (e + 1) u d → PairThen s at v u (d + 1)
      pair_known k =
          let m : length (fields_at (drop (e + 1) s)) ≡ 1 → ⊥ = second_known.1 in
          pair_then s at p pair_letter first_then (number_more s (e + 1) second_place k (omega (arith, some_field (drop (e + 1) s))))

  -- The high end of a fact.
  module _ (x : get_or s at 10 ≡ 70) {v u b : ℕ} (k : PairThen s at v u b) where
    pub high_known : (is_number (field_at s b) ≡ true) × (2 ≤ length (fields_at (drop b s)) → ⊥)
    high_known = neither (no_high s at x k) w.form

    pub fact_known : {h e : ℕ} → NumberTo s b h e → Says s at (fact v u h) (e + 1)
    fact_known n =
        let m : 2 ≤ length (fields_at (drop b s)) → ⊥ = high_known.1 in
        a_fact s at x k (number_only s b n (omega (arith, some_field (drop b s))))

  -- The op letter and the literals of a rule.
  module _ (x : get_or s at 10 ≡ 82) {v u b : ℕ} (k : PairThen s at v u b) where
    pub an_op : (k : ℕ) × (Some k ≡ kind_at (get_or s b 10))
    an_op = some_of (kind_at (get_or s b 10)) (λ z. never (no_op s at x k (none_kind s b z)))

    op_letter_lem : LetterThen s b (get_or s b 10)
    op_letter_lem = letter_unless s b k.place refl (kind_plain (get_or s b 10) an_op.1) (λ z. never (no_op s at x k (zero_kind z)))

    pub literals_place : InText s (b + 2)
    literals_place = op_letter_lem.place

    are_literals_lem : are_literals (fields_at (drop (b + 2) s)) ≡ true
    are_literals_lem = sym (literals_form s at x k op_letter_lem an_op.1) ∙ w.form

    pub literals_known : (leb (length (fields_at (drop (b + 2) s))) 8 ≡ true) × (all_literals (fields_at (drop (b + 2) s)) ≡ true)
    literals_known = let hs = fields_at (drop (b + 2) s) in both_true (leb (length hs) 8) (all_literals hs) are_literals_lem

    pub literals_rest : drop 4 (fields_at (drop at s)) ≡ fields_at (drop (b + 2) s)
    literals_rest = ap (drop 4) k.fields ∙ ap (drop 1) op_letter_lem.fields

    pub rule_known : {next : ℕ} → Ends s (b + 2) next → Says s at (rule v u (op_in (get_or s b 10 ∷ [])) (map literal_in (fields_at (drop (b + 2) s)))) next
    rule_known e = a_rule s at x k op_letter_lem an_op.1 are_literals_lem e

    pub rule_codes : {i : ℕ} → Some i ≡ kind_at (get_or s b 10) → v ∷ i ∷ u ∷ length (fields_at (drop (b + 2) s)) ∷ map code_in (fields_at (drop (b + 2) s)) ≡ line_code (rule v u (op_in (get_or s b 10 ∷ [])) (map literal_in (fields_at (drop (b + 2) s))))
    rule_codes n = let hs = fields_at (drop (b + 2) s) in rw ((op_known (get_or s b 10) n).1, length-map hs literal_in, map-map code_of literal_in hs)

  -- A line that begins with neither `F`, `R` nor `Q` is a D line.
  pub must_default : (get_or s at 10 ≡ 70 → ⊥) → (get_or s at 10 ≡ 82 → ⊥) → (get_or s at 10 ≡ 81 → ⊥) → get_or s at 10 ≡ 68
  must_default f r q = go (ℕ_discrete (get_or s at 10) 68)
    where
      go : Dec (get_or s at 10 ≡ 68) → get_or s at 10 ≡ 68
      go (yes e) = e
      go (no n) = absurd (never (other_line s at f r q n))

  -- The reading and the condition of a query.
  module _ (x : get_or s at 10 ≡ 81) where
    query_letter : LetterThen s at 81
    query_letter = first_letter x (plain 81 (omega arith))

    pub reading_place : InText s (at + 2)
    reading_place = query_letter.place

    pub a_reading : (k : ℕ) × (Some k ≡ reading_at (get_or s (at + 2) 10))
    a_reading = some_of (reading_at (get_or s (at + 2) 10)) (λ z. never (no_reading_letter s at query_letter (none_reading s (at + 2) z)))

    reading_letter_lem : LetterThen s (at + 2) (get_or s (at + 2) 10)
    reading_letter_lem =
        letter_unless s (at + 2) reading_place refl (reading_plain (get_or s (at + 2) 10) a_reading.1)
        (λ z. never (no_reading_letter s at query_letter (zero_reading z)))

    pub condition_place : InText s (at + 4)
    condition_place = query_place s at query_letter reading_letter_lem

    pub condition_known : (is_number (field_at s (at + 4)) ≡ true) × (2 ≤ length (fields_at (drop (at + 4) s)) → ⊥)
    condition_known = neither (no_query s at query_letter reading_letter_lem) w.form

    module _ {v e : ℕ} (n : NumberTo s (at + 4) v e) where
      the_condition : NumberLast s (at + 4) v (e + 1)
      the_condition =
          let m : 2 ≤ length (fields_at (drop (at + 4) s)) → ⊥ = condition_known.1 in
          number_only s (at + 4) n (omega (arith, some_field (drop (at + 4) s)))

      pub query_known : Says s at (query (reading_in (get_or s (at + 2) 10 ∷ [])) v) (e + 1)
      query_known = a_query s at query_letter reading_letter_lem a_reading.1 the_condition

      pub known_codes : {k : ℕ} → Some k ≡ reading_at (get_or s (at + 2) 10) → v ∷ 6 ∷ k ∷ 0 ∷ [] ≡ line_code (query (reading_in (get_or s (at + 2) 10 ∷ [])) v)
      known_codes r = query_codes s at query_letter reading_letter_lem r the_condition

  -- The condition of a D line.
  module _ (x : get_or s at 10 ≡ 68) where
    default_letter : LetterThen s at 68
    default_letter = first_letter x (plain 68 (omega arith))

    pub default_place : InText s (at + 2)
    default_place = default_letter.place

    pub default_number : (is_number (field_at s (at + 2)) ≡ true) × (length (fields_at (drop (at + 2) s)) ≡ 1 → ⊥)
    default_number = neither (no_default s at default_letter) w.form

    module _ {v e : ℕ} (n : NumberTo s (at + 2) v e) where
      default_condition : NumberThen s (at + 2) v (e + 1)
      default_condition =
          let m : length (fields_at (drop (at + 2) s)) ≡ 1 → ⊥ = default_number.1 in
          number_more s (at + 2) default_place n (omega (arith, some_field (drop (at + 2) s)))

      unknown_here : (get_or s (e + 1) 10 ≡ 85) × (get_or s (e + 1 + 1) 10 ≡ 10)
      unknown_here = go (ℕ_discrete (get_or s (e + 1) 10) 85) (ℕ_discrete (get_or s (e + 1 + 1) 10) 10)
        where
          not_so : (get_or s (e + 1) 10 ≡ 85 → get_or s (e + 1 + 1) 10 ≡ 10 → ⊥) → ⊥
          not_so z = never (no_unknown s at default_letter default_condition (no_letter_last s (e + 1) 85 z))

          go : Dec (get_or s (e + 1) 10 ≡ 85) → Dec (get_or s (e + 1 + 1) 10 ≡ 10) → (get_or s (e + 1) 10 ≡ 85) × (get_or s (e + 1 + 1) 10 ≡ 10)
          go (yes p) (yes q) = (p, q)
          go (yes p) (no q) = absurd (not_so (λ y z. q z))
          go (no p) q = absurd (not_so (λ y z. p y))

      pub default_known : Says s at (default v) (e + 3)
      default_known =
          let k : e + 1 + 2 ≡ e + 3 = omega arith in
          rw k at (a_default s at default_letter default_condition (letter_last s (e + 1) unknown_here.0 (plain 85 (omega arith)) unknown_here.1))

-- The entry of a line.
pub put_line : {s : List ℕ} {at : ℕ} {line : Line} {next : ℕ} → Says s at line next → {area : List ℕ} {start : ℕ} {area' : List ℕ} {end : ℕ}
    → Put area start (line_code line) area' end → LinePut s at area start area' next end
put_line h p = record { entry = rw h.is p; ends = h.ends }

-- its literals have their places behind its four numbers
module _ (s : List ℕ) (at : ℕ) {area : List ℕ} {end : ℕ} (f : LineFits s at area end) where
  pub literals_room : (x : get_or s at 10 ≡ 82) {v u b : ℕ} (k : PairThen s at v u b) → end + 4 + length (fields_at (drop (b + 2) s)) ≤ length area
  literals_room x k =
      omega (arith, f.room, (form_size (fields_at (drop at s)) f.formed.form).0, ap length (literals_rest s at f.formed x k))
