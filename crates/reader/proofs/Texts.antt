-- A text as a whole: the refusals of the text, of its first line and of the others. Assumes nothing.
use Rattle.std.proofs.Common.{false, Some, Ok, slice_get}
use native.Mathlib.Decide.{ℕ_discrete}
use Rattle.std.proofs.lemmas.Option.{slice_get-get_or, slice_get_within, get_or_from_slice_get}
use mathlib.Core.Path.{◌≡◌, sym, ◌∙◌, ap}
use mathlib.Core.List.{List, []}
use mathlib.Core.Option.{Option, none, some}
use Prim.Native.Nat.{ℕ, ◌-◌, ◌≤◌, ◌<◌}
use native.Mathlib.Omega.{arith}
use lib.ListN.{length, get_or, drop}
use borrow.Author.Tests.{eq-eqb, ne_eqb, lt-ltb, le-ltb}
use Rattle.semantics.specs.Text.{text_lines, is_head, top_in, conditions_in}
use Rattle.semantics.specs.ReadPage.{Fault, Refusal, told_at, or_else, head_ranges, leftmost, head_fault, bad_line, bad_line_of, text_refusal}
use Rattle.semantics.proofs.FieldRanges.{no_fault, inside}
use Rattle.fields.specs.Cursor.{InText, fields_at, lines_after}
use Rattle.fields.proofs.Places.{byte_here}
use Rattle.reader.specs.Checks.{HeadSays, AllGood, CheckedAs}

-- a first line of no form
pub no_head : (s : List ℕ) → is_head (fields_at s) ≡ false → bad_line_of (text_lines s) ≡ some (record { number = 3; line = 1; place = 0 })
unfolding bad_line_of head_fault fields_at
no_head s e = rw e

-- The lines of a text, by its first line, and what its fields come to.
module _ (s : List ℕ) {t n next : ℕ} (w : HeadSays s t n next) {f : Option Fault} (r : f ≡ leftmost 1 (head_ranges t n)) where
  tops : t ≡ top_in (text_lines s)
  unfolding fields_at
  tops = w.top

  counts : n ≡ conditions_in (text_lines s)
  unfolding fields_at
  counts = w.conditions

  rest : drop 1 (text_lines s) ≡ text_lines (drop next s)
  unfolding lines_after
  rest = w.lines

  by_head : bad_line_of (text_lines s) ≡ or_else (told_at 1 f) (bad_line t n 2 [] (text_lines (drop next s)))
  unfolding bad_line_of head_fault fields_at
  by_head = rw (w.form, ← tops, ← counts) (rw (← r, rest))

  pub far_head : {number place : ℕ} → f ≡ some (record { number = number; place = place })
      → bad_line_of (text_lines s) ≡ some (record { number = number; line = 1; place = place })
  far_head e = by_head ∙ rw e

  module _ (m : f ≡ none) where
    good_head : bad_line_of (text_lines s) ≡ bad_line t n 2 [] (text_lines (drop next s))
    good_head = by_head ∙ rw m

    pub conditions_few : n ≤ 512
    conditions_few = (inside 1 512 n (no_fault 1 (head_ranges t n) (sym r ∙ m)).1.1.0.0).1

    pub accepted : (words : List ℕ) {k u : ℕ} → AllGood s next t n words k u → CheckedAs (bad_line_of (text_lines s)) s words (Ok (record { top = t; conditions = n; count = k; used = u }))
    accepted words a = (good_head ∙ a.good, record { top = tops; conditions = counts; from = next; lines = rest; all = a })

    pub refused : {o : Option Refusal} → bad_line t n 2 [] (text_lines (drop next s)) ≡ o → bad_line_of (text_lines s) ≡ o
    refused d = good_head ∙ d

-- The text before its lines.
module _ (s : List ℕ) where
  pub too_long : 65535 < length s → text_refusal s ≡ some (record { number = 1; line = 0; place = 0 })
  unfolding text_refusal
  too_long h = rw (lt-ltb 65535 (length s) h)

  module _ (h : length s ≤ 65535) where
    pub unended : (slice_get s (length s - 1) ≡ Some 10 → ⊥) → text_refusal s ≡ some (record { number = 2; line = 0; place = 0 })
    unfolding text_refusal
    unended m = go (ℕ_discrete (length s) 0)
      where
        go : Dec (length s ≡ 0) → text_refusal s ≡ some (record { number = 2; line = 0; place = 0 })
        go (yes z) = rw (le-ltb 65535 (length s) h, eq-eqb (length s) 0 z)
        go (no n) =
            let l : length s - 1 < length s = omega arith in
            rw (
              le-ltb 65535 (length s) h,
              ne_eqb (length s) 0 n,
              ne_eqb (get_or s (length s - 1) 0) 10 (λ e. m (slice_get-get_or s (length s - 1) 0 l ∙ ap (λ (x : ℕ). Some x) e)),
            )

    -- the last byte is 10
    module _ (e : slice_get s (length s - 1) ≡ Some 10) where
      last_inside : length s - 1 < length s
      last_inside = slice_get_within s (length s - 1) 10 e

      last_is : get_or s (length s - 1) 0 ≡ 10
      last_is = get_or_from_slice_get s (length s - 1) 10 0 e

      pub text_place : InText s 0
      text_place = let l : length s - 1 < length s = last_inside in record { inside = omega arith; ended = sym (byte_here s (length s - 1) l) ∙ last_is }

      pub ended : text_refusal s ≡ bad_line_of (text_lines s)
      unfolding text_refusal
      ended =
          let l : length s - 1 < length s = last_inside in
          rw (le-ltb 65535 (length s) h, ne_eqb (length s) 0 (λ z. omega arith), eq-eqb (get_or s (length s - 1) 0) 10 last_is)
