-- The lines at a place of a text, by the byte that stands there, and where they begin. Assumes nothing.
use mathlib.Core.Path.{◌≡◌, refl, sym}
use mathlib.Core.List.{List, [], ◌∷◌}
use Prim.Native.Nat.{ℕ, suc, ◌+◌, ◌≤◌, ◌<◌}
use native.Mathlib.Omega.{arith}
use native.Mathlib.Numerals.{add-one}
use native.Mathlib.Decide.{dec_lt}
use lib.ListN.{length, get_or, drop, drop_of_length-le, get_or-eq_default}
use lib.Seq.{drop-cons}
use borrow.Author.Tests.{ne_eqb}
use Rattle.semantics.specs.Text.{text_lines}
use Rattle.semantics.specs.ReadPage.{start_from}
use Rattle.semantics.proofs.TextParts.{some_line}
use Rattle.fields.specs.Cursor.{lines_after}
use Rattle.fields.proofs.Places.{within}

pub byte_past : (s : List ℕ) (i : ℕ) → length s ≤ i → 10 ≡ get_or s i 10
byte_past s i h = sym (get_or-eq_default s 10 h)

module _ (s : List ℕ) (i : ℕ) where
  pub newline_front : get_or s i 10 ≡ 10 → get_or (text_lines (drop i s)) 0 [] ≡ []
  unfolding text_lines
  newline_front e = go (dec_lt i (length s))
    where
      go : Dec (i < length s) → get_or (text_lines (drop i s)) 0 [] ≡ []
      go (yes h) = rw (drop-cons s i 10 h, e)
      go (no n) = let h : length s ≤ i = omega arith in rw (drop_of_length-le s h)

  pub newline_lines : get_or s i 10 ≡ 10 → lines_after (drop i s) ≡ text_lines (drop (i + 1) s)
  unfolding lines_after text_lines
  newline_lines e = go (dec_lt i (length s))
    where
      go : Dec (i < length s) → lines_after (drop i s) ≡ text_lines (drop (i + 1) s)
      go (yes h) = rw (add-one, drop-cons s i 10 h, e)
      go (no n) =
          let h : length s ≤ i = omega arith in
          let h' : length s ≤ i + 1 = omega arith in
          rw (drop_of_length-le s h, drop_of_length-le s h')

  module _ (n : get_or s i 10 ≡ 10 → ⊥) where
    pub other_front : get_or (text_lines (drop i s)) 0 [] ≡ get_or s i 10 ∷ get_or (text_lines (drop (i + 1) s)) 0 []
    unfolding text_lines
    other_front =
        let h : i < length s = within s i n in
        rw (add-one, drop-cons s i 10 h, ne_eqb (get_or s i 10) 10 n)

    pub other_lines : lines_after (drop i s) ≡ lines_after (drop (i + 1) s)
    unfolding lines_after text_lines
    other_lines =
        let h : i < length s = within s i n in
        rw (add-one, drop-cons s i 10 h, ne_eqb (get_or s i 10) 10 n)

  -- a text that goes on has a line here, and then the lines after it
  pub line_here : i < length s → text_lines (drop i s) ≡ get_or (text_lines (drop i s)) 0 [] ∷ lines_after (drop i s)
  unfolding lines_after
  line_here h = rw (drop-cons s i 10 h) (some_line (get_or s i 10) (drop (suc i) s))

  -- where the lines behind a place begin
  pub other_start : (get_or s i 10 ≡ 10 → ⊥) → (k : ℕ) → start_from (drop i s) (suc k) ≡ suc (start_from (drop (i + 1) s) (suc k))
  unfolding start_from
  other_start n k =
      let h : i < length s = within s i n in
      rw (add-one, drop-cons s i 10 h, ne_eqb (get_or s i 10) 10 n)

  pub newline_start : i < length s → get_or s i 10 ≡ 10 → (k : ℕ) → start_from (drop i s) (suc k) ≡ suc (start_from (drop (i + 1) s) k)
  unfolding start_from
  newline_start h e k = rw (add-one, drop-cons s i 10 h, e)

  pub end_start : length s ≤ i → (k : ℕ) → start_from (drop i s) k ≡ 0
  unfolding start_from
  end_start h k = rw (drop_of_length-le s h)

pub first_start : (s : List ℕ) → start_from s 0 ≡ 0
unfolding start_from
first_start [] = refl
first_start (b ∷ s) = refl
