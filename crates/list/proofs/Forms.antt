-- A line of a list, by what the parser has read of it. Assumes nothing.
use mathlib.Core.Path.{◌≡◌, refl, sym, ◌∙◌, ap}
use mathlib.Core.Bool.{true, false, ◌&&◌}
use mathlib.Core.List.{List, [], ◌∷◌, append-nil}
use mathlib.Core.Logic.{◌⊎◌, inl, inr, ⊎_elim}
use Prim.Native.Nat.{ℕ, ◌+◌, ◌≤◌}
use native.Mathlib.Omega.{arith}
use lib.Dec.{eqb}
use lib.ListN.{length, get_or, drop}
use borrow.Author.Tests.{ne_eqb}
use Rattle.semantics.specs.Text.{text_lines, is_letter, is_number, number_in}
use Rattle.semantics.specs.Fields.{joined}
use Rattle.semantics.specs.Trials.{trial_form, is_trial, trial_in}
use Rattle.semantics.proofs.TestLists.{fails}
use Rattle.semantics.proofs.TextParts.{joined_fields_of}
use Rattle.fields.specs.Cursor.{InText, fields_at, field_at, lines_after, letter_then, number_before}
use Rattle.fields.specs.declared.Token.{Token}
use Rattle.std.proofs.Common.{Some}
use Rattle.std.proofs.lemmas.Option.{cond_some}
use Rattle.fields.proofs.Letters.{LetterThen, letter_absent, letter_or}
use Rattle.fields.proofs.Tokens.{NumberThen, NumberLast}
use Rattle.list.specs.Lines.{line_at, FrontThen, Says}
use Rattle.list.proofs.EndedTexts.{line_inside, line_ends}

-- one of the tests of the form fails, or there are not five fields
no_form_lem : (fs : List (List ℕ)) (k : ℕ) {P : Type 0} → (P → length fs ≡ 5 → ⊥) → (get_or (trial_form fs) k true ≡ false) ⊎ P → is_trial fs ≡ false
unfolding is_trial
no_form_lem fs k n (inl e) = fails (trial_form fs) k e
no_form_lem fs k n (inr p) = fails (trial_form fs) 1 (ne_eqb (length fs) 5 (n p))

-- no letter, and another byte than `T`
no_letter_lem : (fs : List (List ℕ)) → (letter_then fs ≡ 84 → ⊥) → is_trial fs ≡ false
no_letter_lem fs n = no_form_lem fs 0 (λ l z. omega arith) (letter_absent (is_letter 84) (λ f. refl) fs (ne_eqb (letter_then fs) 84 n))

pub gone_letter : (fs : List (List ℕ)) → letter_then fs ≡ 0 → is_trial fs ≡ false
gone_letter fs e = no_letter_lem fs (λ z. omega arith)

pub other_letter_lem : (s : List ℕ) (at : ℕ) → (get_or s at 10 ≡ 84 → ⊥) → is_trial (fields_at (drop at s)) ≡ false
other_letter_lem s at n =
    let fs = fields_at (drop at s) in
    ⊎_elim (λ (e : letter_then fs ≡ get_or s at 10). no_letter_lem fs (λ z. n (sym e ∙ z))) (λ (e : letter_then fs ≡ 0). gone_letter fs e) (letter_or s at)

-- The two numbers behind the letter.
module _ (s : List ℕ) (at : ℕ) (k : LetterThen s at 84) where
  pub no_trial : (is_number (field_at s (at + 2)) ≡ false) ⊎ (length (fields_at (drop (at + 2) s)) ≡ 1) → is_trial (fields_at (drop at s)) ≡ false
  no_trial h = ap is_trial k.fields ∙ no_form_lem ((84 ∷ []) ∷ fields_at (drop (at + 2) s)) 2 (λ l z. omega arith) h

  module _ {v a : ℕ} (t : NumberThen s (at + 2) v a) where
    trial_fields_lem : fields_at (drop at s) ≡ (84 ∷ []) ∷ field_at s (at + 2) ∷ fields_at (drop a s)
    trial_fields_lem = k.fields ∙ ap (λ (fs : List (List ℕ)). (84 ∷ []) ∷ fs) t.fields

    pub no_condition : (is_number (field_at s a) ≡ false) ⊎ (length (fields_at (drop a s)) ≡ 1) → is_trial (fields_at (drop at s)) ≡ false
    no_condition h = ap is_trial trial_fields_lem ∙ no_form_lem ((84 ∷ []) ∷ field_at s (at + 2) ∷ fields_at (drop a s)) 3 (λ l z. omega arith) h

    pub front_then : {w e : ℕ} → NumberThen s a w e → FrontThen s at v w e
    front_then {w} {e} n =
        record {
          f = field_at s (at + 2);
          g = field_at s a;
          fields = trial_fields_lem ∙ ap (λ (fs : List (List ℕ)). (84 ∷ []) ∷ field_at s (at + 2) ∷ fs) n.fields;
          first = t.number;
          second = n.number;
          value = t.value;
          value' = n.value;
          lines = k.lines ∙ t.lines ∙ n.lines;
          ahead = omega (arith, t.ahead, n.ahead);
          place = n.place;
        }

-- The number that is the last field of its line ends where the line does.
pub number_end : (s : List ℕ) (at m : ℕ) {t : Token} → Some t ≡ number_before s at m → at + length (field_at s at) + 1 ≡ t.end
unfolding number_before
number_end s at m {t} h =
    let f = field_at s at in
    ap (λ (k : Token). k.end) (cond_some (is_number f && eqb (get_or s (at + length f) 10) m) (record { value = number_in f; end = at + length f + 1 }) t (sym h)).1

module _ (s : List ℕ) (at : ℕ) {v e : ℕ} (n : NumberLast s at v e) (h : at + length (field_at s at) + 1 ≡ e) where
  last_line : line_at s at ≡ field_at s at
  unfolding fields_at
  last_line = sym (joined_fields_of (line_at s at)) ∙ ap joined n.fields ∙ append-nil (field_at s at)

  last_inside : InText s at → e ≤ length s
  last_inside p = omega (arith, ap length last_line, line_inside s at p.inside p.ended)

-- The two numbers behind them.
module _ (s : List ℕ) (at : ℕ) {v w a : ℕ} (k : FrontThen s at v w a) where
  pub no_low : (is_number (field_at s a) ≡ false) ⊎ (length (fields_at (drop a s)) ≡ 1) → is_trial (fields_at (drop at s)) ≡ false
  no_low h = ap is_trial k.fields ∙ no_form_lem ((84 ∷ []) ∷ k.f ∷ k.g ∷ fields_at (drop a s)) 4 (λ l z. omega arith) h

  module _ {x b : ℕ} (t : NumberThen s a x b) where
    low_fields : fields_at (drop at s) ≡ (84 ∷ []) ∷ k.f ∷ k.g ∷ field_at s a ∷ fields_at (drop b s)
    low_fields = k.fields ∙ ap (λ (fs : List (List ℕ)). (84 ∷ []) ∷ k.f ∷ k.g ∷ fs) t.fields

    pub no_high : (is_number (field_at s b) ≡ false) ⊎ (2 ≤ length (fields_at (drop b s))) → is_trial (fields_at (drop at s)) ≡ false
    no_high h = ap is_trial low_fields ∙ no_form_lem ((84 ∷ []) ∷ k.f ∷ k.g ∷ field_at s a ∷ fields_at (drop b s)) 5 (λ l z. omega arith) h

    -- the line has the form
    module _ (p : InText s at) {y e : ℕ} (n : NumberLast s b y e) (h : b + length (field_at s b) + 1 ≡ e) where
      all_fields : fields_at (drop at s) ≡ (84 ∷ []) ∷ k.f ∷ k.g ∷ field_at s a ∷ field_at s b ∷ []
      all_fields = low_fields ∙ ap (λ (fs : List (List ℕ)). (84 ∷ []) ∷ k.f ∷ k.g ∷ field_at s a ∷ fs) n.fields

      pub a_trial : Says s at (record { trial = v; condition = w; low = x; high = y }) e
      unfolding is_trial trial_in
      a_trial =
          let l : lines_after (drop at s) ≡ text_lines (drop e s) = k.lines ∙ t.lines ∙ n.lines in
          let i : e ≤ length s = last_inside s b n h t.place in
          record {
            form = ap is_trial all_fields ∙ rw (k.first, k.second, t.number, n.number);
            is = ap trial_in all_fields ∙ rw (k.value, k.value', t.value, n.value);
            lines = l;
            end = line_ends s at p.inside p.ended l i;
            inside = i;
          }
