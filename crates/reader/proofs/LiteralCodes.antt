-- The codes of the literals of a rule, written one after the other. Assumes nothing.
use mathlib.Core.Path.{◌≡◌, refl, sym, ◌∙◌, ap}
use mathlib.Core.Bool.{true}
use mathlib.Core.List.{List, [], ◌∷◌, map}
use mathlib.Core.Logic.{⊎_elim}
use Prim.Native.Nat.{ℕ, suc, ◌+◌, ◌-◌, ◌<◌}
use native.Mathlib.Omega.{arith}
use lib.ListN.{length, get_or, drop, set, length-set, length-map}
use lib.Seq.{sets}
use Rattle.semantics.specs.Text.{is_literal, all_literals}
use Rattle.semantics.proofs.Soundness.{both_true}
use Rattle.fields.specs.Cursor.{fields_at, field_at, CodeTo}
use Rattle.fields.proofs.Places.{byte_here}
use Rattle.fields.proofs.Fields.{first_here, Comma, Newline, follows, newline_after}
use Rattle.lines.proofs.LiteralFields.{Passed, passed_more, last_size, last_ends}
use Rattle.reader.specs.Entries.{Put, code_in, LiteralsPut}
use Rattle.reader.proofs.Writes.{sets_before}

-- The literals from the place `at` to the place i of the text are written from `start` up to `end`; area₀ is the area before them.
pub record Putting (s : List ℕ) (at : ℕ) (area₀ : List ℕ) (start : ℕ) (area : List ℕ) (end i : ℕ) : Type 0 where
  pub count : ℕ
  pub passed : Passed s at count i
  pub size : end ≡ start + count
  pub same : length area ≡ length area₀
  pub put : sets area₀ start (map code_in (fields_at (drop at s))) ≡ sets area end (map code_in (fields_at (drop i s)))

module _ (s : List ℕ) (at : ℕ) (area₀ : List ℕ) (start : ℕ) {area : List ℕ} {end i : ℕ} (w : Putting s at area₀ start area end i) (all : all_literals (fields_at (drop at s)) ≡ true) where
  -- the next field is a literal, and has its place
  pub literal_known : is_literal (field_at s i) ≡ true
  unfolding all_literals
  literal_known =
      (both_true (is_literal (field_at s i)) (all_literals (drop 1 (fields_at (drop i s))))
      (ap all_literals (sym (first_here s i (i + length (field_at s i)) refl)) ∙ sym w.passed.all ∙ all)).0

  module _ {code e : ℕ} (q : CodeTo s i code e) where
    byte_behind : get_or s e 0 ≡ get_or s e 10
    byte_behind = let l : e < length s = q.place.inside in byte_here s e l

    -- another byte than 10 follows: a comma
    pub putting_more : (get_or s e 0 ≡ 10 → ⊥) → Putting s at area₀ start (set area end code) (end + 1) (e + 1)
    putting_more n =
        ⊎_elim
        (λ (m : (get_or s e 10 ≡ 44) × Comma s i e).
        let j : end + 1 ≡ suc end = omega arith in
        let g : Putting s at area₀ start (set area end code) (end + 1) (e + 1) =
        record {
          count = w.count + 1;
          passed = passed_more s at w.passed literal_known q.end q.ahead q.place m.0;
          size = omega (arith, w.size);
          same = length-set area end code ∙ w.same;
          put = w.put ∙ rw (m.1.fields, q.is, j);
        } in
        g)
        (λ (m : (get_or s e 10 ≡ 10) × Newline s i e). absurd (n (byte_behind ∙ m.0)))
        (follows s i e q.end)

    -- the line ends
    pub putting_last : get_or s e 0 ≡ 10 → LiteralsPut s at area₀ start (set area end code) (e + 1) (end + 1)
    putting_last n =
        let m : get_or s e 10 ≡ 10 = sym byte_behind ∙ n in
        record {
          codes = record {
            put = sym (w.put ∙ rw ((newline_after s i e q.end m).fields, q.is));
            size = omega (arith, w.size, last_size s at w.passed literal_known q.end q.ahead q.place m, length-map (fields_at (drop at s)) code_in);
          };
          ends = last_ends s at w.passed literal_known q.end q.ahead q.place m;
        }

-- The four numbers of a rule before its literals.
module _ {s : List ℕ} {at : ℕ} {area : List ℕ} (i : ℕ) {area₁ : List ℕ} {next e : ℕ} (y : LiteralsPut s at area (i + 4) area₁ next e) where
  pub literals_count : e - (i + 4) ≡ length (fields_at (drop at s))
  literals_count = omega (arith, y.codes.size, length-map (fields_at (drop at s)) code_in)

  pub rule_put : (c k w : ℕ) {area₂ : List ℕ} → area₂ ≡ sets area₁ i (c ∷ k ∷ w ∷ (e - (i + 4)) ∷ [])
      → Put area i (c ∷ k ∷ w ∷ length (fields_at (drop at s)) ∷ map code_in (fields_at (drop at s))) area₂ e
  rule_put c k w a =
      let hs = fields_at (drop at s) in
      let four = c ∷ k ∷ w ∷ (e - (i + 4)) ∷ [] in
      record {
        put = a ∙ ap (λ (l : List ℕ). sets l i four) y.codes.put ∙ sets_before area i four (map code_in hs) ∙ ap (λ (m : ℕ). sets area i (c ∷ k ∷ w ∷ m ∷ map code_in hs)) literals_count;
        size = omega (arith, y.codes.size);
      }
