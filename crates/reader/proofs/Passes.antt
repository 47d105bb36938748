-- The lines after the first, one after the other: which is bad, how many there are, and their used length. Assumes nothing.
use mathlib.Core.Path.{◌≡◌, refl, ◌∙◌, ap}
use mathlib.Core.List.{List, [], ◌∷◌, ◌++◌}
use mathlib.Core.Option.{some}
use Prim.Native.Nat.{ℕ, suc, ◌+◌, ◌*◌, ◌-◌, ◌≤◌, ◌<◌}
use native.Mathlib.Omega.{arith}
use native.Mathlib.Numerals.{add-one}
use lib.ListN.{length, get_or, drop, drop_of_length-le, length-append}
use lib.Dec.{leb}
use borrow.Author.Tests.{eq-eqb, ne_eqb}
use Rattle.semantics.specs.Page.{Line as PageLine, defaults}
use Rattle.semantics.specs.Area.{head_length, line_code, line_codes}
use Rattle.semantics.specs.Text.{text_lines, fields_of, line_in, lines_in}
use Rattle.semantics.specs.ReadPage.{told_at, or_else, line_fault, bad_line}
use Rattle.semantics.proofs.Repeats.{defaults_pass}
use Rattle.fields.specs.Cursor.{fields_at, lines_after}
use mathlib.Core.Bool.{false}
use Rattle.bits.specs.Words.{has}
use Rattle.reader.specs.Checks.{Seen, fault_in, LineGood, AllGood, entries_of}
use Rattle.reader.proofs.LinePlaces.{line_here}

-- The first of the lines at a place, and their entries.
module _ (s : List ℕ) (i : ℕ) (h : i < length s) where
  abbrev line : List ℕ
  line = get_or (text_lines (drop i s)) 0 []

  fields_here : fields_of line ≡ fields_at (drop i s)
  unfolding fields_at
  fields_here = refl

  pub entries_here : entries_of s i ≡ line_code (line_in (fields_at (drop i s))) ++ line_codes (lines_in (lines_after (drop i s)))
  unfolding lines_in line_codes
  entries_here = ap (λ (ls : List (List ℕ)). line_codes (lines_in ls)) (line_here s i h) ∙ rw fields_here

  lines_here : lines_in (text_lines (drop i s)) ≡ line_in (fields_at (drop i s)) ∷ lines_in (lines_after (drop i s))
  unfolding lines_in
  lines_here = ap lines_in (line_here s i h) ∙ rw fields_here

  module _ (top n k : ℕ) (before : List PageLine) where
    late_line : k ≡ 1026 → bad_line top n k before (text_lines (drop i s)) ≡ some (record { number = 5; line = k; place = 0 })
    unfolding bad_line line_fault
    late_line e = rw (line_here s i h, eq-eqb k 1026 e)

    line_bad : (k ≡ 1026 → ⊥) → bad_line top n k before (text_lines (drop i s))
        ≡ or_else (told_at k (fault_in top n before (fields_at (drop i s)))) (bad_line top n (suc k) (line_in (fields_at (drop i s)) ∷ before) (lines_after (drop i s)))
    unfolding bad_line line_fault
    line_bad e = rw (line_here s i h, ne_eqb k 1026 e, fields_here)

-- The lines from the place `from` on have been checked as far as the place i, where line k begins; their used length is u, and a set has the
-- conditions of their D lines.
pub record Checking (s : List ℕ) (from top n : ℕ) (words : List ℕ) (i k u : ℕ) : Type 0 where
  pub before : List PageLine
  pub bad : bad_line top n 2 [] (text_lines (drop from s)) ≡ bad_line top n k before (text_lines (drop i s))
  pub passed : (c : ℕ) → defaults before c + defaults (lines_in (text_lines (drop i s))) c ≡ defaults (lines_in (text_lines (drop from s))) c
  pub seen : Seen before words
  pub count : 2 + length (text_lines (drop from s)) ≡ k + length (text_lines (drop i s))
  pub used : head_length n + length (entries_of s from) ≡ u + length (entries_of s i)
  pub least : 2 ≤ k
  pub most : k ≤ 1026
  pub short : u + 24 ≤ head_length n + 12 * k

-- an empty set
pub seen_none : {words : List ℕ} → length words ≡ 8 → ((c : ℕ) → has words c ≡ false) → Seen [] words
unfolding defaults
seen_none z n = record { size = z; are = λ c l. n c }

pub checking_first : (s : List ℕ) (from top n : ℕ) {words : List ℕ} → Seen [] words → Checking s from top n words from 2 (head_length n)
unfolding defaults
checking_first s from top n v =
    record { before = []; bad = refl; passed = λ c. omega arith; seen = v; count = refl; used = refl; least = omega arith; most = omega arith; short = omega arith }

module _ (s : List ℕ) (from top n : ℕ) {words : List ℕ} {i k u : ℕ} (w : Checking s from top n words i k u) where
  pub checking_done : n ≤ 512 → length s ≤ i → AllGood s from top n words (k - 2) u
  unfolding text_lines bad_line lines_in line_codes defaults
  checking_done m h =
      let e : text_lines (drop i s) ≡ [] = rw (drop_of_length-le s h) in
      let z : length (text_lines (drop i s)) ≡ 0 = ap length e in
      let y : length (entries_of s i) ≡ 0 = ap (λ (ls : List (List ℕ)). length (line_codes (lines_in ls))) e in
      let p : (c : ℕ) → defaults w.before c ≡ defaults (lines_in (text_lines (drop from s))) c =
      λ c. omega (arith, w.passed c, ap (λ (ls : List (List ℕ)). defaults (lines_in ls) c) e) in
      record {
        good = w.bad ∙ rw e;
        seen = record { size = w.seen.size; are = λ c l. w.seen.are c l ∙ ap (leb 1) (p c) };
        conditions_few = m;
        count = omega (arith, w.count, w.least);
        used = omega (arith, w.used);
        few = omega (arith, w.most);
        short = omega (arith, w.short, w.most);
      }

  module _ (h : i < length s) where
    pub refused_late : k ≡ 1026 → bad_line top n 2 [] (text_lines (drop from s)) ≡ some (record { number = 5; line = k; place = 0 })
    refused_late e = w.bad ∙ late_line s i h top n k w.before e

    module _ (e : k ≡ 1026 → ⊥) where
      pub refused_line : {number place : ℕ} → fault_in top n w.before (fields_at (drop i s)) ≡ some (record { number = number; place = place })
          → bad_line top n 2 [] (text_lines (drop from s)) ≡ some (record { number = number; line = k; place = place })
      refused_line f = w.bad ∙ line_bad s i h top n k w.before e ∙ rw f

      pub checking_next : {words' : List ℕ} {next size : ℕ} → LineGood s i top n w.before words' next size → Checking s from top n words' next (k + 1) (u + size)
      checking_next {words'} {next} {size} q =
          let line = line_in (fields_at (drop i s)) in
          let c = line_code line in
          let on : lines_in (text_lines (drop i s)) ≡ line ∷ lines_in (text_lines (drop next s)) = rw q.ends.lines at (lines_here s i h) in
          record {
            before = line ∷ w.before;
            passed = λ d. omega (arith, w.passed d, defaults_pass w.before line (lines_in (text_lines (drop next s))) d, ap (λ (ls : List PageLine). defaults ls d) on);
            seen = q.seen;
            bad = w.bad ∙ line_bad s i h top n k w.before e ∙ rw (q.good, q.ends.lines, add-one);
            count = w.count ∙ rw (line_here s i h, q.ends.lines) (omega arith);
            used = omega (arith, w.used, ap length (rw q.ends.lines at (entries_here s i h)), length-append c (entries_of s next), q.entry);
            least = omega (arith, w.least);
            most = omega (arith, w.most);
            short = omega (arith, w.short, q.few);
          }
