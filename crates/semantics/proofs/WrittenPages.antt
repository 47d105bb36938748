-- The text of every proper page is accepted, and what is read from it is that page. Assumes nothing.
use mathlib.Core.Path.{◌≡◌, refl, ◌∙◌, ap, ap₂}
use mathlib.Core.Bool.{true}
use mathlib.Core.List.{List, [], ◌∷◌, ◌++◌, map}
use mathlib.Core.Option.{none}
use Prim.Native.Nat.{ℕ, suc, ◌+◌, ◌*◌, ◌-◌, ◌≤◌, ◌<◌}
use native.Mathlib.Omega.{arith}
use lib.ListN.{length, get_or, drop, length-append}
use borrow.Author.Tests.{eq-eqb, ne_eqb, le-ltb}
use Rattle.semantics.specs.Grade.{Op, M, X, L, B, P}
use Rattle.semantics.specs.Page.{Literal, positive, negative, Reading, K, W, Line, fact, rule, query, default, Page, defaults}
use Rattle.semantics.proofs.Proper.{LiteralsBelow, InRange, AllInRange, Proper}
use Rattle.semantics.specs.Area.{used_of, area_of}
use Rattle.semantics.specs.Text.{text_lines, fields_of, is_head, line_in, top_in, conditions_in, lines_in, page_in}
use Rattle.semantics.specs.ReadPage.{head_ranges, leftmost, head_fault, line_fault, bad_line, bad_line_of, text_refusal, page_read, refusal_of, read_page, read_of}
use Rattle.semantics.proofs.Rows.{page1}
use Rattle.semantics.specs.Fields.{number_within, number_text, reading_letter, after_commas, joined, ended_lines}
use Rattle.semantics.specs.Written.{literal_text, op_letter, line_fields, head_fields, line_texts, text_of}
use Rattle.semantics.proofs.FieldRanges.{not_outside, range_passes}
use Rattle.semantics.proofs.Repeats.{defaults_pass, no_repeat}
use Rattle.semantics.proofs.TextParts.{without, AllWithout, lines_of_ended, fields_of_joined, joined_without, ended_last}
use Rattle.semantics.proofs.TextNumbers.{written_value, number_without, number_short}
use Rattle.semantics.proofs.TextForms.{head_written, line_written}

-- The fields of a line hold neither a comma nor byte 10: no byte m below `0` other than `!`.
module _ (m : ℕ) (h : m < 48) (n : 33 ≡ m → ⊥) where
  clean_letter : (b : ℕ) → 48 ≤ b → without m (b ∷ []) ≡ true
  clean_letter b k = rw (ne_eqb b m (λ z. omega arith))

  clean_op : (op : Op) → without m (op_letter op ∷ []) ≡ true
  clean_op M = clean_letter 77 (omega arith)
  clean_op X = clean_letter 88 (omega arith)
  clean_op L = clean_letter 76 (omega arith)
  clean_op B = clean_letter 66 (omega arith)
  clean_op P = clean_letter 80 (omega arith)

  clean_reading : (r : Reading) → without m (reading_letter r ∷ []) ≡ true
  clean_reading K = clean_letter 75 (omega arith)
  clean_reading W = clean_letter 87 (omega arith)

  clean_literals : (k : ℕ) → k ≤ 1000 → (ls : List Literal) → LiteralsBelow k ls → AllWithout m (map literal_text ls)
  clean_literals k l [] w = tt
  clean_literals k l (positive c ∷ ls) w = (number_without c (omega (arith, w.0)) m h, clean_literals k l ls w.1)
  clean_literals k l (negative c ∷ ls) w = (rw (ne_eqb 33 m n) (number_without c (omega (arith, w.0)) m h), clean_literals k l ls w.1)

  module _ (top k : ℕ) (t : top < 1000) (l : k ≤ 1000) where
    clean_line : (line : Line) → InRange top k line → AllWithout m (line_fields line)
    clean_line (fact c x y) w =
        (clean_letter 70 (omega arith), (number_without c (omega (arith, w.0)) m h, (number_without x (omega (arith, w.1, w.2)) m h, (number_without y (omega (arith, w.2)) m h, tt))))
    clean_line (rule c x op lits) w =
        (clean_letter 82 (omega arith), (number_without c (omega (arith, w.0)) m h, (number_without x (omega (arith, w.2)) m h, (clean_op op, clean_literals k l lits w.5))))
    clean_line (query r c) w = (clean_letter 81 (omega arith), (clean_reading r, (number_without c (omega (arith, w)) m h, tt)))
    clean_line (default c) w = (clean_letter 68 (omega arith), (number_without c (omega (arith, w)) m h, (clean_letter 85 (omega arith), tt)))

    clean_head : k < 1000 → AllWithout m (head_fields top k)
    clean_head q = (clean_letter 71 (omega arith), (number_without top t m h, (number_without k q m h, tt)))

-- The lines of a proper page, written and read.
module _ (top n : ℕ) (t : top < 1000) (l : n ≤ 1000) where
  fields_back : (line : Line) → InRange top n line → fields_of (joined (line_fields line)) ≡ line_fields line
  fields_back (fact c x y) w = fields_of_joined (70 ∷ []) (number_text c ∷ number_text x ∷ number_text y ∷ []) (clean_line 44 (omega arith) (λ z. omega arith) top n t l (fact c x y) w)
  fields_back (rule c x op lits) w =
      fields_of_joined (82 ∷ []) (number_text c ∷ number_text x ∷ (op_letter op ∷ []) ∷ map literal_text lits)
      (clean_line 44 (omega arith) (λ z. omega arith) top n t l (rule c x op lits) w)
  fields_back (query r c) w = fields_of_joined (81 ∷ []) ((reading_letter r ∷ []) ∷ number_text c ∷ []) (clean_line 44 (omega arith) (λ z. omega arith) top n t l (query r c) w)
  fields_back (default c) w = fields_of_joined (68 ∷ []) (number_text c ∷ (85 ∷ []) ∷ []) (clean_line 44 (omega arith) (λ z. omega arith) top n t l (default c) w)

  clean_texts : (ls : List Line) → AllInRange top n ls → AllWithout 10 (line_texts ls)
  clean_texts [] w = tt
  clean_texts (x ∷ ls) w =
      (joined_without 10 (λ z. omega arith) (line_fields x) (clean_line 10 (omega arith) (λ z. omega arith) top n t l x w.0), clean_texts ls w.1)

  lines_back : (ls : List Line) → AllInRange top n ls → lines_in (line_texts ls) ≡ ls
  unfolding lines_in
  lines_back [] w = refl
  lines_back (x ∷ ls) w =
      ap₂ {C = List Line} (λ y ys. y ∷ ys) (ap line_in (fields_back x w.0) ∙ (line_written top n t l x w.0).line) (lines_back ls w.1)

  none_bad : (k : ℕ) (before ls : List Line) → AllInRange top n ls → ((c : ℕ) → defaults before c + defaults ls c ≤ 1) → k + length ls ≤ 1026
      → bad_line top n k before (line_texts ls) ≡ none
  unfolding bad_line line_fault
  none_bad k before [] w u h = refl
  none_bad k before (x ∷ ls) w u h =
      let s = line_written top n t l x w.0 in
      rw (
        ne_eqb k 1026 (λ z. omega arith),
        fields_back x w.0,
        s.form,
        s.line,
        range_passes top n x w.0,
        no_repeat before x ls u,
      )
      (none_bad (suc k) (x ∷ before) ls w.1 (λ c. omega (arith, u c, defaults_pass before x ls c)) (omega arith))

-- The length of a line's text.
literals_short : (k : ℕ) → k ≤ 1000 → (ls : List Literal) → LiteralsBelow k ls → length (after_commas (map literal_text ls)) ≤ 5 * length ls
literals_short k l [] w = omega arith
literals_short k l (positive c ∷ ls) w =
    omega (arith, length-append (number_text c) (after_commas (map literal_text ls)), number_short c (omega (arith, w.0)), literals_short k l ls w.1)
literals_short k l (negative c ∷ ls) w =
    omega (arith, length-append (number_text c) (after_commas (map literal_text ls)), number_short c (omega (arith, w.0)), literals_short k l ls w.1)

module _ (top n : ℕ) (t : top < 1000) (l : n ≤ 1000) where
  line_short : (line : Line) → InRange top n line → length (joined (line_fields line)) ≤ 51
  line_short (fact c x y) w =
      omega (
        arith,
        length-append (number_text c) (44 ∷ number_text x ++ (44 ∷ number_text y ++ [])),
        length-append (number_text x) (44 ∷ number_text y ++ []),
        length-append (number_text y) [],
        number_short c (omega (arith, w.0)),
        number_short x (omega (arith, w.1, w.2)),
        number_short y (omega (arith, w.2)),
      )
  line_short (rule c x op lits) w =
      let ls = after_commas (map literal_text lits) in
      omega (
        arith,
        length-append (number_text c) (44 ∷ number_text x ++ (44 ∷ op_letter op ∷ ls)),
        length-append (number_text x) (44 ∷ op_letter op ∷ ls),
        number_short c (omega (arith, w.0)),
        number_short x (omega (arith, w.2)),
        literals_short n l lits w.5,
        w.4,
      )
  line_short (query r c) w = omega (arith, length-append (number_text c) [], number_short c (omega (arith, w)))
  line_short (default c) w = omega (arith, length-append (number_text c) (44 ∷ 85 ∷ []), number_short c (omega (arith, w)))

  lines_short : (ls : List Line) → AllInRange top n ls → length (ended_lines (line_texts ls)) ≤ 52 * length ls
  lines_short [] w = omega arith
  lines_short (x ∷ ls) w =
      omega (arith, length-append (joined (line_fields x)) (10 ∷ ended_lines (line_texts ls)), line_short x w.0, lines_short ls w.1)

-- The text of a proper page of at most 1,024 lines.
module _ (page : Page) (w : Proper page) (few : length page.lines ≤ 1024) where
  top' : page.top < 1000
  top' = omega (arith, w.top_most)

  conditions' : page.conditions < 1000
  conditions' = omega (arith, w.conditions_most)

  some' : page.conditions ≤ 1000
  some' = omega (arith, w.conditions_most)

  head : List (List ℕ)
  head = head_fields page.top page.conditions

  head_fields_lem : fields_of (joined head) ≡ head
  unfolding head
  head_fields_lem =
      fields_of_joined (71 ∷ []) (number_text page.top ∷ number_text page.conditions ∷ [])
      (clean_head 44 (omega arith) (λ z. omega arith) page.top page.conditions top' some' conditions')

  text_lines_lem : text_lines (text_of page) ≡ joined head ∷ line_texts page.lines
  unfolding text_of head
  text_lines_lem =
      lines_of_ended (joined (head_fields page.top page.conditions) ∷ line_texts page.lines) (
        joined_without 10 (λ z. omega arith) (head_fields page.top page.conditions)
            (clean_head 10 (omega arith) (λ z. omega arith) page.top page.conditions top' some' conditions'),
        clean_texts page.top page.conditions top' some' page.lines w.ranged,
      )

  top_read : top_in (text_lines (text_of page)) ≡ page.top
  unfolding head
  top_read = rw (text_lines_lem, head_fields_lem) (written_value page.top top')

  conditions_read : conditions_in (text_lines (text_of page)) ≡ page.conditions
  unfolding head
  conditions_read = rw (text_lines_lem, head_fields_lem) (written_value page.conditions conditions')

  -- what is read from it is the page
  pub page_written : page_read (text_of page) ≡ page
  unfolding page_in
  page_written = λ i.
      record {
        top = top_read i;
        conditions = conditions_read i;
        lines = (ap (λ (ls : List (List ℕ)). lines_in (drop 1 ls)) text_lines_lem ∙ lines_back page.top page.conditions top' some' page.lines w.ranged) i;
      }

  head_passes : leftmost 1 (head_ranges page.top page.conditions) ≡ none
  unfolding leftmost
  head_passes =
      rw (
        not_outside 1 200 page.top w.top_least w.top_most,
        not_outside 1 512 page.conditions w.conditions_least w.conditions_most,
      )

  is_head_lem : is_head head ≡ true
  unfolding head
  is_head_lem = head_written page.top page.conditions top' conditions'

  no_bad_line : bad_line_of (text_lines (text_of page)) ≡ none
  unfolding bad_line_of head_fault defaults
  no_bad_line =
      rw (top_read, conditions_read, text_lines_lem, head_fields_lem)
      (rw (is_head_lem, head_passes)
      (none_bad page.top page.conditions top' some' 2 [] page.lines w.ranged (λ c. omega (arith, w.single c)) (omega (arith, few))))

  -- it is at most 53,258 bytes long
  text_short : length (text_of page) ≤ 53258
  unfolding text_of
  text_short =
      let t = number_text page.top in
      let n = number_text page.conditions in
      let ls = line_texts page.lines in
      omega (
        arith,
        length-append (joined (head_fields page.top page.conditions)) (10 ∷ ended_lines ls),
        length-append t (44 ∷ n ++ []),
        length-append n [],
        number_short page.top top',
        number_short page.conditions conditions',
        lines_short page.top page.conditions top' some' page.lines w.ranged,
        few,
      )

  text_ends : get_or (text_of page) (length (text_of page) - 1) 0 ≡ 10
  unfolding text_of
  text_ends = ended_last (joined (head_fields page.top page.conditions)) (line_texts page.lines)

  text_filled : length (text_of page) ≡ 0 → ⊥
  unfolding text_of
  text_filled e = omega (arith, length-append (joined (head_fields page.top page.conditions)) (10 ∷ ended_lines (line_texts page.lines)))

  pub text_accepted : text_refusal (text_of page) ≡ none
  unfolding text_refusal
  text_accepted =
      let t = text_of page in
      rw (le-ltb 65535 (length t) (omega (arith, text_short)), ne_eqb (length t) 0 text_filled, eq-eqb (get_or t (length t - 1) 0) 10 text_ends) no_bad_line

  -- every such page is read from its text, given a long enough area
  pub written_read : (area : List ℕ) → used_of (area_of page) ≤ length area
      → read_of (text_of page) area ≡ record { answer = read_page (used_of (area_of page)); area = area_of page ++ drop (used_of (area_of page)) area }
  unfolding read_of refusal_of
  written_read area h = rw (text_accepted, page_written, le-ltb (length area) (used_of (area_of page)) h) (rw page_written)

-- the page of the program `attach`, as document 01 writes it
pub page1_text : text_of page1
    ≡ 71 ∷ 44 ∷ 49 ∷ 48 ∷ 44 ∷ 50 ∷ 10
    ∷ 70 ∷ 44 ∷ 48 ∷ 44 ∷ 50 ∷ 44 ∷ 50 ∷ 10
    ∷ 70 ∷ 44 ∷ 49 ∷ 44 ∷ 51 ∷ 44 ∷ 51 ∷ 10
    ∷ 82 ∷ 44 ∷ 48 ∷ 44 ∷ 49 ∷ 48 ∷ 44 ∷ 77 ∷ 44 ∷ 33 ∷ 49 ∷ 10
    ∷ 82 ∷ 44 ∷ 49 ∷ 44 ∷ 49 ∷ 48 ∷ 44 ∷ 77 ∷ 44 ∷ 33 ∷ 48 ∷ 10
    ∷ 81 ∷ 44 ∷ 75 ∷ 44 ∷ 48 ∷ 10
    ∷ 81 ∷ 44 ∷ 87 ∷ 44 ∷ 49 ∷ 10
    ∷ []
unfolding text_of page1 number_text number_within
page1_text = refl
