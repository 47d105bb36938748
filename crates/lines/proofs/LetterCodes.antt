-- The op letters and the reading letters. Assumes nothing.
use Rattle.std.proofs.Common.{Option, Some, None}
use Rattle.std.proofs.lemmas.Option.{none-some, same_Some}
use mathlib.Core.Path.{◌≡◌, refl, sym, ap, ◌∙◌}
use mathlib.Core.Bool.{Bool, true, false, cond, ◌&&◌, ◌||◌}
use mathlib.Core.List.{List, [], ◌∷◌}
use mathlib.Core.Logic.{⊎_elim}
use Prim.Native.Nat.{ℕ}
use lib.Dec.{eqb}
use lib.ListN.{length, get_or, drop}
use Rattle.semantics.specs.Area.{kind_of, line_code}
use Rattle.semantics.specs.Grade.{M, X, L, B, P}
use Rattle.semantics.specs.Page.{K, W, query}
use Rattle.semantics.specs.Text.{is_op, op_in, is_reading, reading_in}
use Rattle.fields.specs.Cursor.{fields_at, letter_then}
use Rattle.fields.proofs.Letters.{Plain, letter_or}
use Rattle.lines.specs.Lines.{kind_at, reading_at}

-- The op letters.
pub op_one : (f : List ℕ) → is_op f ≡ (eqb (length f) 1 && is_op (get_or f 0 0 ∷ []))
unfolding is_op
op_one f = go (eqb (length f) 1) refl
  where
    go : (t : Bool) → eqb (length f) 1 ≡ t → is_op f ≡ (t && is_op (get_or f 0 0 ∷ []))
    go true e = rw e
    go false e = rw e

abbrev kind_by : Bool → Bool → Bool → Bool → Bool → Option ℕ
kind_by t u v w x = cond t (Some 1) (cond u (Some 2) (cond v (Some 3) (cond w (Some 4) (cond x (Some 5) None))))

pub op_none : (b : ℕ) → None ≡ kind_at b → is_op (b ∷ []) ≡ false
unfolding kind_at is_op
op_none b = go (eqb b 77) (eqb b 88) (eqb b 76) (eqb b 66) (eqb b 80)
  where
    go : (t u v w x : Bool) → None ≡ kind_by t u v w x → (t || (u || (v || (w || x)))) ≡ false
    go true u v w x h = absurd (none-some 1 h)
    go false true v w x h = absurd (none-some 2 h)
    go false false true w x h = absurd (none-some 3 h)
    go false false false true x h = absurd (none-some 4 h)
    go false false false false true h = absurd (none-some 5 h)
    go false false false false false h = refl

pub op_known : (b : ℕ) {k : ℕ} → Some k ≡ kind_at b → (is_op (b ∷ []) ≡ true) × (k ≡ kind_of (op_in (b ∷ [])))
unfolding kind_at is_op op_in
op_known b {k} = go (eqb b 77) (eqb b 88) (eqb b 76) (eqb b 66) (eqb b 80)
  where
    go : (t u v w x : Bool) → Some k ≡ kind_by t u v w x
        → ((t || (u || (v || (w || x)))) ≡ true) × (k ≡ kind_of (cond t M (cond u X (cond v L (cond w B P)))))
    go true u v w x h = (refl, same_Some k 1 h)
    go false true v w x h = (refl, same_Some k 2 h)
    go false false true w x h = (refl, same_Some k 3 h)
    go false false false true x h = (refl, same_Some k 4 h)
    go false false false false true h = (refl, same_Some k 5 h)
    go false false false false false h = absurd (none-some k (sym h))

-- The reading letters.
pub reading_one : (f : List ℕ) → is_reading f ≡ (eqb (length f) 1 && is_reading (get_or f 0 0 ∷ []))
unfolding is_reading
reading_one f = go (eqb (length f) 1) refl
  where
    go : (t : Bool) → eqb (length f) 1 ≡ t → is_reading f ≡ (t && is_reading (get_or f 0 0 ∷ []))
    go true e = rw e
    go false e = rw e

abbrev reading_by : Bool → Bool → Option ℕ
reading_by t u = cond t (Some 0) (cond u (Some 1) None)

pub reading_none : (b : ℕ) → None ≡ reading_at b → is_reading (b ∷ []) ≡ false
unfolding reading_at is_reading
reading_none b = go (eqb b 75) (eqb b 87)
  where
    go : (t u : Bool) → None ≡ reading_by t u → (t || u) ≡ false
    go true u h = absurd (none-some 0 h)
    go false true h = absurd (none-some 1 h)
    go false false h = refl

pub reading_known : (b : ℕ) {k : ℕ} → Some k ≡ reading_at b → (is_reading (b ∷ []) ≡ true) × ((c : ℕ) → c ∷ 6 ∷ k ∷ 0 ∷ [] ≡ line_code (query (reading_in (b ∷ [])) c))
unfolding reading_at is_reading reading_in
reading_known b {k} = go (eqb b 75) (eqb b 87)
  where
    go : (t u : Bool) → Some k ≡ reading_by t u → ((t || u) ≡ true) × ((c : ℕ) → c ∷ 6 ∷ k ∷ 0 ∷ [] ≡ line_code (query (cond t K W) c))
    go true u h = (refl, λ c. ap (λ (x : ℕ). c ∷ 6 ∷ x ∷ 0 ∷ []) (same_Some k 0 h))
    go false true h = (refl, λ c. ap (λ (x : ℕ). c ∷ 6 ∷ x ∷ 0 ∷ []) (same_Some k 1 h))
    go false false h = absurd (none-some k (sym h))

-- a letter of an op or a reading is neither a comma, byte 10 nor 0
pub kind_plain : (x : ℕ) {k : ℕ} → Some k ≡ kind_at x → Plain x
unfolding kind_at
kind_plain x {k} n =
    record { comma = λ e. none-some k (sym (n ∙ ap kind_at e)); newline = λ e. none-some k (sym (n ∙ ap kind_at e)); zero = λ e. none-some k (sym (n ∙ ap kind_at e)) }

pub reading_plain : (x : ℕ) {k : ℕ} → Some k ≡ reading_at x → Plain x
unfolding reading_at
reading_plain x {k} n =
    record { comma = λ e. none-some k (sym (n ∙ ap reading_at e)); newline = λ e. none-some k (sym (n ∙ ap reading_at e)); zero = λ e. none-some k (sym (n ∙ ap reading_at e)) }

-- what the letter 0 is, and so a byte that is none
pub zero_kind : {r : ℕ} → r ≡ 0 → None ≡ kind_at r
unfolding kind_at
zero_kind e = ap kind_at (sym e)

pub zero_reading : {r : ℕ} → r ≡ 0 → None ≡ reading_at r
unfolding reading_at
zero_reading e = ap reading_at (sym e)

pub none_kind : (s : List ℕ) (at : ℕ) → None ≡ kind_at (get_or s at 10) → None ≡ kind_at (letter_then (fields_at (drop at s)))
none_kind s at h = ⊎_elim (λ e. h ∙ ap kind_at (sym e)) (λ e. zero_kind e) (letter_or s at)

pub none_reading : (s : List ℕ) (at : ℕ) → None ≡ reading_at (get_or s at 10) → None ≡ reading_at (letter_then (fields_at (drop at s)))
none_reading s at h = ⊎_elim (λ e. h ∙ ap reading_at (sym e)) (λ e. zero_reading e) (letter_or s at)
