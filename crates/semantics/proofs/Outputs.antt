-- The output for a text: there is one, and only one, of at most 14,353 bytes. Assumes nothing.
use mathlib.Core.Path.{◌≡◌, refl, sym, ◌∙◌, ap, ap₂}
use mathlib.Core.List.{List, [], ◌∷◌, ◌++◌, append_assoc}
use mathlib.Core.Bool.{true}
use mathlib.Core.Option.{Option, none, some}
use Prim.Native.Nat.{ℕ, ◌*◌, ◌≤◌, ◌<◌}
use native.Mathlib.Omega.{arith}
use lib.ListN.{length, drop, length-append}
use borrow.Author.Tests.{le-ltb}
use Rattle.fixpoint.specs.Interval.{Interval, Within}
use Rattle.fixpoint.specs.LeastFixpoint.{lfp}
use Rattle.fixpoint.specs.WellFounded.{closed}
use Rattle.semantics.specs.Body.{T, unknown_by_default}
use Rattle.semantics.specs.Page.{Reading, K, W, Line, fact, rule, query, default, Page}
use Rattle.semantics.proofs.Proper.{AllInRange, Proper}
use Rattle.semantics.specs.Area.{sound, page_of, area_of}
use Rattle.semantics.specs.ReadPage.{Refusal, text_refusal, page_read, used_by, refusal_of, refused_page, read_page, read_as, read_of}
use Rattle.semantics.specs.Fields.{number_text, joined}
use Rattle.semantics.proofs.Readings.{plain_is, closed_is, plain_one, closed_one}
use Rattle.semantics.proofs.ReadProper.{accepted_proper, accepted_few, SmallRefusal, read_small}
use Rattle.semantics.proofs.ExactAreas.{proper_sound}
use Rattle.semantics.proofs.RoundTrip.{page_area}
use Rattle.semantics.proofs.UsedLength.{most_used, used_most}
use Rattle.semantics.proofs.TextNumbers.{number_short, number_four}
use Rattle.semantics.specs.Output.{Query, queries_of, Answers, AreAnswers, top_fields, answer_fields, end_fields, refusal_fields, printed, answer_lines, page_output, PrintedAs, IsOutput}

-- lines behind lines
pub printed_append : (xs ys : List (List (List ℕ))) → printed (xs ++ ys) ≡ printed xs ++ printed ys
printed_append [] ys = refl
printed_append (x ∷ xs) ys = ap (λ (s : List ℕ). joined x ++ (10 ∷ s)) (printed_append xs ys) ∙ sym (append_assoc (joined x) (10 ∷ printed xs) (printed ys))

pub answers_append : (A : Answers) (ps qs : List Query) → answer_lines A (ps ++ qs) ≡ answer_lines A ps ++ answer_lines A qs
answers_append A [] qs = refl
answers_append A (p ∷ ps) qs = ap (λ (ls : List (List (List ℕ))). answer_fields p (A p.reading p.condition) ∷ ls) (answers_append A ps qs)

-- Q lines behind Q lines
pub queries_append : (xs ys : List Line) → queries_of (xs ++ ys) ≡ queries_of xs ++ queries_of ys
unfolding queries_of
queries_append [] ys = refl
queries_append (fact c x y ∷ xs) ys = queries_append xs ys
queries_append (rule c w op lits ∷ xs) ys = queries_append xs ys
queries_append (query r c ∷ xs) ys = ap (λ (qs : List Query). record { reading = r; condition = c } ∷ qs) (queries_append xs ys)
queries_append (default c ∷ xs) ys = queries_append xs ys

-- the readings of a proper page
module _ (page : Page) (w : Proper page) where
  the_answers : Answers
  the_answers K = lfp page.conditions page.top (T page)
  the_answers W = closed page.conditions page.top (T page) (unknown_by_default page)

  are_answers : AreAnswers page the_answers
  unfolding the_answers
  are_answers K = plain_is page w
  are_answers W = closed_is page w

  pub answers_exist : (A : Answers) × AreAnswers page A
  answers_exist = (the_answers, are_answers)

  pub answers_one : {A B : Answers} → AreAnswers page A → AreAnswers page B → (r : Reading) (c : ℕ) → c < page.conditions → A r c ≡ B r c
  answers_one {A} {B} a b K c l = plain_one page w (a K) (b K) c l
  answers_one {A} {B} a b W c l = closed_one page w (a W) (b W) c l

  pub answers_within : {A : Answers} → AreAnswers page A → (r : Reading) (c : ℕ) → c < page.conditions → Within page.top (A r c)
  answers_within {A} a K c l = (a K).within c l
  answers_within {A} a W c l = (a W).closes.within c l

  -- the lines for Q lines are the same for any answers
  same_lines : {A B : Answers} → AreAnswers page A → AreAnswers page B → (ls : List Line) → AllInRange page.top page.conditions ls
      → answer_lines A (queries_of ls) ≡ answer_lines B (queries_of ls)
  unfolding queries_of
  same_lines {A} {B} a b [] h = refl
  same_lines {A} {B} a b (fact c x y ∷ ls) h = same_lines a b ls h.1
  same_lines {A} {B} a b (rule c v op lits ∷ ls) h = same_lines a b ls h.1
  same_lines {A} {B} a b (query r c ∷ ls) h =
      ap₂ {C = List (List (List ℕ))} (λ (p : Interval) (more : List (List (List ℕ))). answer_fields (record { reading = r; condition = c }) p ∷ more)
      (answers_one a b r c h.0) (same_lines a b ls h.1)
  same_lines {A} {B} a b (default c ∷ ls) h = same_lines a b ls h.1

  pub same_output : {A B : Answers} → AreAnswers page A → AreAnswers page B → page_output page A ≡ page_output page B
  unfolding page_output
  same_output {A} {B} a b =
      ap (λ (ls : List (List (List ℕ))). printed ((top_fields page.top ∷ ls) ++ (end_fields (length (queries_of page.lines)) ∷ [])))
      (same_lines a b page.lines w.ranged)

-- there is an output for every text
pub output_exists : (text : List ℕ) → (output : List ℕ) × IsOutput text output
unfolding IsOutput
output_exists text = go (text_refusal text) refl
  where
    go : (o : Option Refusal) → text_refusal text ≡ o → (output : List ℕ) × PrintedAs o (page_read text) output
    go (some r) e = (printed (refusal_fields r.number r.line ∷ []), refl)
    go none e =
        let x = answers_exist (page_read text) (accepted_proper text e) in
        (page_output (page_read text) x.0, record { answers = x.0; are = x.1; is = refl })

-- and only one
pub output_one : (text x y : List ℕ) → IsOutput text x → IsOutput text y → x ≡ y
unfolding IsOutput
output_one text x y p q = go (text_refusal text) refl p q
  where
    go : (o : Option Refusal) → text_refusal text ≡ o → PrintedAs o (page_read text) x → PrintedAs o (page_read text) y → x ≡ y
    go (some r) e p q = p ∙ sym q
    go none e p q = p.is ∙ same_output (page_read text) (accepted_proper text e) p.are q.are ∙ sym q.is

-- The lengths of the printed lines.
pub top_short : (top : ℕ) → top < 1000 → length (printed (top_fields top ∷ [])) ≤ 8
top_short top h =
    omega (arith, length-append (number_text top) [], number_short top h, length-append (joined (top_fields top)) (10 ∷ []))

pub end_short : (count : ℕ) → count < 10000 → length (printed (end_fields count ∷ [])) ≤ 9
end_short count h =
    omega (arith, length-append (number_text count) [], number_four count h, length-append (joined (end_fields count)) (10 ∷ []))

pub refusal_short : (number line : ℕ) → number < 1000 → line < 10000 → length (printed (refusal_fields number line ∷ [])) ≤ 17
refusal_short number line h k =
    omega (
      arith,
      length-append (number_text line) [],
      length-append (number_text number) (44 ∷ number_text line ++ []),
      number_short number h,
      number_four line k,
      length-append (joined (refusal_fields number line)) (10 ∷ []),
    )

pub answer_short : (q : Query) (p : Interval) → q.condition < 1000 → p.low < 1000 → p.high < 1000 → length (printed (answer_fields q p ∷ [])) ≤ 14
answer_short q p h k l =
    omega (
      arith,
      length-append (number_text p.high) [],
      length-append (number_text p.low) (44 ∷ number_text p.high ++ []),
      length-append (number_text q.condition) (44 ∷ number_text p.low ++ (44 ∷ number_text p.high ++ [])),
      number_short q.condition h,
      number_short p.low k,
      number_short p.high l,
      length-append (joined (answer_fields q p)) (10 ∷ []),
    )

-- the lines before and behind the answers
pub page_output_lem : (page : Page) (A : Answers)
    → page_output page A ≡ printed (top_fields page.top ∷ []) ++ (printed (answer_lines A (queries_of page.lines)) ++ printed (end_fields (length (queries_of page.lines)) ∷ []))
unfolding page_output
page_output_lem page A =
    printed_append (top_fields page.top ∷ answer_lines A (queries_of page.lines)) (end_fields (length (queries_of page.lines)) ∷ [])
    ∙ ap (λ (s : List ℕ). s ++ printed (end_fields (length (queries_of page.lines)) ∷ [])) (printed_append (top_fields page.top ∷ []) (answer_lines A (queries_of page.lines)))
    ∙ append_assoc (printed (top_fields page.top ∷ [])) (printed (answer_lines A (queries_of page.lines))) (printed (end_fields (length (queries_of page.lines)) ∷ []))

pub queries_most : (ls : List Line) → length (queries_of ls) ≤ length ls
unfolding queries_of
queries_most [] = omega arith
queries_most (fact c x y ∷ ls) = omega (arith, queries_most ls)
queries_most (rule c v op lits ∷ ls) = omega (arith, queries_most ls)
queries_most (query r c ∷ ls) = omega (arith, queries_most ls)
queries_most (default c ∷ ls) = omega (arith, queries_most ls)

module _ (page : Page) (w : Proper page) {A : Answers} (a : AreAnswers page A) where
  lines_short : (ls : List Line) → AllInRange page.top page.conditions ls → length (printed (answer_lines A (queries_of ls))) ≤ 14 * length (queries_of ls)
  unfolding queries_of
  lines_short [] h = omega arith
  lines_short (fact c x y ∷ ls) h = lines_short ls h.1
  lines_short (rule c v op lits ∷ ls) h = lines_short ls h.1
  lines_short (query r c ∷ ls) h =
      let q : Query = record { reading = r; condition = c } in
      let i = answers_within page w a r c h.0 in
      let x = answer_fields q (A r c) in
      omega (
        arith,
        ap length (printed_append (x ∷ []) (answer_lines A (queries_of ls))),
        length-append (printed (x ∷ [])) (printed (answer_lines A (queries_of ls))),
        answer_short q (A r c) (omega (arith, h.0, w.conditions_most)) (omega (arith, i.low_in, w.top_most)) (omega (arith, i.high_in, w.top_most)),
        lines_short ls h.1,
      )
  lines_short (default c ∷ ls) h = lines_short ls h.1

  page_short : length page.lines ≤ 1024 → length (page_output page A) ≤ 14353
  page_short few =
      let qs = queries_of page.lines in
      let n = length qs in
      let m : n ≤ 1024 = omega (arith, queries_most page.lines, few) in
      omega (
        arith,
        ap length (page_output_lem page A),
        length-append (printed (top_fields page.top ∷ [])) (printed (answer_lines A qs) ++ printed (end_fields n ∷ [])),
        length-append (printed (answer_lines A qs)) (printed (end_fields n ∷ [])),
        top_short page.top (omega (arith, w.top_most)),
        lines_short page.lines w.ranged,
        end_short n (omega (arith, m)),
      )

-- a refusal of a text has a small number and a small line
pub text_small : (text : List ℕ) (r : Refusal) → text_refusal text ≡ some r → SmallRefusal r.number r.line r.place
unfolding read_of refusal_of
text_small text r e = read_small text [] (rw e)

-- "the longest output is 14,353 bytes"
pub output_short : (text output : List ℕ) → IsOutput text output → length output ≤ 14353
unfolding IsOutput
output_short text output p = go (text_refusal text) refl p
  where
    go : (o : Option Refusal) → text_refusal text ≡ o → PrintedAs o (page_read text) output → length output ≤ 14353
    go (some r) e p =
        let s = text_small text r e in
        omega (arith, ap length p, refusal_short r.number r.line (omega (arith, s.number_most)) (omega (arith, s.line_most)))
    go none e p = omega (arith, ap length p.is, page_short (page_read text) (accepted_proper text e) p.are (accepted_few text e))

-- Reading into an area that is long enough for every page: it is refused exactly if the text is.
module _ (text area : List ℕ) (long : most_used ≤ length area) where
  no_cause : text_refusal text ≡ none → refusal_of text area ≡ none
  unfolding refusal_of area_of
  no_cause e =
      let a = area_of (page_read text) in
      let s : sound (a ++ []) ≡ true = proper_sound (page_read text) [] (accepted_proper text e) (accepted_few text e) in
      let m : used_by text ≤ length area = omega (arith, used_most (a ++ []) s) in
      rw (e, le-ltb (length area) (used_by text) m)

  pub read_refused : {number line place : ℕ} → refused_page number line place ≡ (read_of text area).answer
      → text_refusal text ≡ some (record { number = number; line = line; place = place })
  unfolding read_of refusal_of
  read_refused {number} {line} {place} e = go (text_refusal text) refl
    where
      go : (o : Option Refusal) → text_refusal text ≡ o → o ≡ some (record { number = number; line = line; place = place })
      go none f =
          let h : refused_page number line place ≡ read_page (used_by text) = e ∙ ap (λ (o : Option Refusal). (read_as o text area).answer) (no_cause f) in
          let z : ◌≡◌ {A = ℕ} 0 1 = cc in
          absurd (omega arith)
      go (some r) f =
          let h : refused_page number line place ≡ refused_page r.number r.line r.place = e ∙ rw f in
          let p : r.number ≡ number = cc in
          let q : r.line ≡ line = cc in
          let s : r.place ≡ place = cc in
          λ i. some (record { number = p i; line = q i; place = s i })

  pub read_accepted : {used : ℕ} → read_page used ≡ (read_of text area).answer → text_refusal text ≡ none
  unfolding read_of refusal_of
  read_accepted {used} e = go (text_refusal text) refl
    where
      go : (o : Option Refusal) → text_refusal text ≡ o → o ≡ none
      go none f = refl
      go (some r) f =
          let h : read_page used ≡ refused_page r.number r.line r.place = e ∙ rw f in
          let z : ◌≡◌ {A = ℕ} 0 1 = cc in
          absurd (omega arith)

  pub page_accepted : text_refusal text ≡ none → page_of (read_of text area).area ≡ page_read text
  unfolding read_of
  page_accepted e = rw (no_cause e) (page_area (page_read text) (drop (used_by text) area))
