-- What reading a page answers and leaves, by what the two passes come to. Assumes nothing.
use mathlib.Core.Path.{◌≡◌, refl, sym, ◌∙◌, ap}
use mathlib.Core.List.{List, [], ◌∷◌, ◌++◌}
use mathlib.Core.Option.{none, some}
use Prim.Native.Nat.{ℕ, suc, ◌+◌, ◌-◌, ◌≤◌, ◌<◌}
use native.Mathlib.Omega.{arith}
use lib.Dec.{leb}
use lib.ListN.{length, get_or, drop, length-append}
use lib.Seq.{sets, sets-eq}
use borrow.Author.Tests.{eqb-true, eqb-false, lt-ltb, le-ltb}
use Rattle.fixpoint.specs.Sum.{bit}
use Rattle.semantics.specs.Page.{defaults}
use Rattle.semantics.specs.Body.{unknown_by_default}
use Rattle.semantics.specs.Table.{table}
use Rattle.semantics.specs.Area.{head_length, line_codes, area_of}
use Rattle.semantics.specs.Text.{text_lines, lines_in, page_in}
use Rattle.semantics.specs.ReadPage.{Refusal, bad_line, text_refusal, page_read, used_by, refusal_of, ReadAnswer, refused_page, read_page, read_of}
use Rattle.semantics.proofs.ReadLines.{good_text}
use Rattle.semantics.proofs.Table.{length_from, get_d_table, table_is}
use Rattle.bits.specs.Words.{has}
use Rattle.fields.specs.Cursor.{InText, lines_after}
use Rattle.fields.proofs.Places.{byte_here}
use Rattle.reader.specs.Checks.{entries_of, AllGood, Accepted, LinesFit}
use Rattle.reader.specs.Shown.{NextLine}
use Rattle.reader.proofs.Writes.{sets_append}

-- an answer and what the area holds are those of the definition
abbrev pub Result : List ℕ → List ℕ → ReadAnswer → List ℕ → Type 0
Result s area answer area' = (answer ≡ (read_of s area).answer) × (area' ≡ (read_of s area).area)

length_lines : (ls : List (List ℕ)) → length (lines_in ls) ≡ length ls
unfolding lines_in
length_lines [] = refl
length_lines (l ∷ ls) = ap suc (length_lines ls)

-- a refused text
pub refused_text : (s area : List ℕ) {r : Refusal} → text_refusal s ≡ some r → Result s area (refused_page r.number r.line r.place) area
unfolding read_of refusal_of
refused_text s area h = (rw h, rw h)

-- an accepted one
module _ (s area words : List ℕ) {t n k u : ℕ} (none_bad : text_refusal s ≡ none) (accepted : Accepted s t n words k u) where
  used_is : used_by s ≡ u
  unfolding area_of page_in
  used_is = let a = accepted in sym (a.all.used ∙ rw (← a.lines, a.conditions))

  pub too_short : length area < u → Result s area (refused_page 6 0 0) area
  unfolding read_of refusal_of
  too_short h = (rw (none_bad, used_is, lt-ltb (length area) u h), rw (none_bad, used_is, lt-ltb (length area) u h))

  -- the text ends with byte 10
  text_place : InText s 0
  text_place =
      let g = good_text s none_bad in
      let m : length s ≡ 0 → ⊥ = eqb-false (length s) 0 g.filled in
      let l : length s - 1 < length s = omega arith in
      record {
        inside = omega arith;
        ended = sym (byte_here s (length s - 1) l) ∙ eqb-true (get_or s (length s - 1) 0) 10 g.ended;
      }

  -- the place behind the first line
  module _ {from : ℕ} (next : NextLine s 0 from) where
    lines_here : drop 1 (text_lines s) ≡ text_lines (drop from s)
    unfolding lines_after
    lines_here = next.lines

    all_here : AllGood s from t n words k u
    all_here =
        let a = accepted in
        let same : text_lines (drop a.from s) ≡ text_lines (drop from s) = sym a.lines ∙ lines_here in
        record {
          good = ap (bad_line t n 2 []) (sym same) ∙ a.all.good;
          count = a.all.count ∙ ap length same;
          used = a.all.used ∙ ap (λ (ls : List (List ℕ)). head_length n + length (line_codes (lines_in ls))) same;
          seen = record {
            size = a.all.seen.size;
            are = λ c l. a.all.seen.are c l ∙ ap (λ (ls : List (List ℕ)). leb 1 (defaults (lines_in ls) c)) same;
          };
          conditions_few = a.all.conditions_few;
          few = a.all.few;
          short = a.all.short;
        }

    -- the numbers of the head, and the D numbers behind them
    abbrev numbers : List ℕ
    numbers = table n (λ c. bit (has words c))

    head : List ℕ
    head = t ∷ n ∷ k ∷ u ∷ numbers

    head_size : length head ≡ head_length n
    unfolding head
    head_size = omega (arith, length_from n 0 (λ c. bit (has words c)))

    defaults_are : numbers ≡ table n (λ c. bit (unknown_by_default (page_read s) c))
    unfolding unknown_by_default page_in
    defaults_are =
        let a = all_here in
        let g : ℕ → ℕ = λ c. bit (leb 1 (defaults (lines_in (drop 1 (text_lines s))) c)) in
        table_is 0 (table n g) n (λ c. bit (has words c)) (length_from n 0 g)
        (λ c l. get_d_table n g c 0 l ∙ sym (ap bit (a.seen.are c (omega (arith, a.conditions_few)) ∙ ap (λ (ls : List (List ℕ)). leb 1 (defaults (lines_in ls) c)) (sym lines_here))))

    page_area : head ++ entries_of s from ≡ area_of (page_read s)
    unfolding area_of page_in head
    page_area =
        let a = all_here in
        rw (defaults_are, accepted.top, a.used, a.count, accepted.conditions, ← (length_lines (text_lines (drop from s))), ← lines_here)

    module _ (h : u ≤ length area) where
      pub lines_fit : {area₁ : List ℕ} → length area₁ ≡ length area → LinesFit s from area₁ (head_length n)
      lines_fit l =
          record {
            top = t;
            n = n;
            k = 2;
            before = [];
            good = all_here.good;
            text = text_place;
            room = omega (arith, all_here.used);
          }

      whole_area : sets (sets area 0 head) (head_length n) (entries_of s from) ≡ area_of (page_read s) ++ drop u area
      whole_area =
          let es = entries_of s from in
          let z : 0 + length head ≡ head_length n = omega (arith, head_size) in
          let y : 0 + length (head ++ es) ≡ u = omega (arith, all_here.used, length-append head es, head_size) in
          ap (λ (j : ℕ). sets (sets area 0 head) j es) (sym z)
          ∙ sets_append area 0 head es
          ∙ sets-eq (head ++ es) area 0 (omega arith)
          ∙ ap (λ (j : ℕ). (head ++ es) ++ drop j area) y
          ∙ ap (λ (l : List ℕ). l ++ drop u area) page_area

      pub read_whole : {area₁ area₂ : List ℕ} → area₁ ≡ sets area 0 (t ∷ n ∷ k ∷ u ∷ numbers) → area₂ ≡ sets area₁ (head_length n) (entries_of s from) → Result s area (read_page u) area₂
      unfolding read_of refusal_of head
      read_whole {area₁} {area₂} a b = (
        rw (none_bad, used_is, le-ltb (length area) u h) (ap read_page (sym used_is)),
        b ∙ ap (λ (l : List ℕ). sets l (head_length n) (entries_of s from)) a ∙ whole_area ∙ rw (none_bad, used_is, le-ltb (length area) u h) (rw used_is),
      )
