-- A page that is read is proper: its area is sound, and its used length is at most that of the longest page. A refusal's number is at most 24, its line at most
-- 1,026, its place at most 12. Assumes nothing.
use mathlib.Core.Path.{◌≡◌, refl, ap}
use mathlib.Core.Bool.{Bool, true, false, not}
use mathlib.Core.List.{List, [], ◌∷◌, ◌++◌}
use mathlib.Core.Option.{Option, none, some}
use Prim.Native.Nat.{ℕ, suc, ◌+◌, ◌≤◌}
use native.Mathlib.Decide.{ℕ_discrete}
use native.Mathlib.Omega.{arith}
use lib.Dec.{eqb}
use lib.ListN.{length, get_or, drop}
use borrow.Author.Tests.{eq-eqb, eqb-false}
use Rattle.semantics.specs.Area.{sound, area_of}
use Rattle.semantics.specs.Call.{Cause, cause, first_of}
use Rattle.semantics.specs.Page.{Literal, Line, fact, rule, query, default, defaults}
use Rattle.semantics.proofs.Proper.{AllInRange, Proper}
use Rattle.semantics.specs.ReadPage.{Refusal, Fault, placed, told_at, or_else, text_causes, head_ranges, literal_ranges, line_ranges, leftmost, head_causes, head_fault, repeat_causes, line_fault, bad_line, bad_line_of, text_refusal, page_read, used_by, area_causes, refusal_of, refused_page, read_page, read_as, read_of}
use Rattle.semantics.specs.Text.{text_lines, fields_of, has_form, line_in, lines_in, top_in, conditions_in, page_in}
use Rattle.semantics.proofs.ExactAreas.{proper_sound}
use Rattle.semantics.proofs.FieldRanges.{else_none, inside, Sized}
use Rattle.semantics.proofs.ReadLines.{good_line, good_head}
use Rattle.semantics.proofs.Repeats.{defaults_pass, still_single}
use Rattle.semantics.proofs.TextForms.{sized, in_range}
use Rattle.semantics.proofs.UsedLength.{most_used, used_most}

-- the lines from line k on
lines_proper : (top n k : ℕ) (before : List Line) (ls : List (List ℕ)) → k ≤ 1026 → bad_line top n k before ls ≡ none
    → AllInRange top n (lines_in ls) × (length (lines_in ls) + k ≤ 1026)
unfolding lines_in
lines_proper top n k before [] l e = (tt, omega arith)
lines_proper top n k before (x ∷ ls) l e =
    let g = good_line top n k before x ls e in
    let m : suc k ≤ 1026 = let d = eqb-false k 1026 g.early in omega arith in
    let w = lines_proper top n (suc k) (line_in (fields_of x) ∷ before) ls m g.others in
    ((in_range top n (fields_of x) g.form g.range, w.0), omega arith)

lines_single : (top n k : ℕ) (before : List Line) (ls : List (List ℕ)) → bad_line top n k before ls ≡ none → (c : ℕ) → defaults before c ≤ 1
    → defaults before c + defaults (lines_in ls) c ≤ 1
unfolding lines_in defaults
lines_single top n k before [] e c s = omega (arith, s)
lines_single top n k before (x ∷ ls) e c s =
    let g = good_line top n k before x ls e in
    let line = line_in (fields_of x) in
    omega (
      arith,
      defaults_pass before line (lines_in ls) c,
      lines_single top n (suc k) (line ∷ before) ls g.others c (still_single before line g.alone c s),
    )

-- an accepted text holds a proper page
pub accepted_proper : (bytes : List ℕ) → text_refusal bytes ≡ none → Proper (page_read bytes)
unfolding text_refusal page_in defaults
accepted_proper bytes e =
    let h = good_head (text_lines bytes) (else_none (told_at 0 (placed 0 (first_of (text_causes bytes)))) _ e).1 in
    let ls = text_lines bytes in
    let t = inside 1 200 (top_in ls) h.range.1.0.0 in
    let n = inside 1 512 (conditions_in ls) h.range.1.1.0.0 in
    let w = lines_proper (top_in ls) (conditions_in ls) 2 [] (drop 1 ls) (omega arith) h.others in
    record {
      top_least = t.0;
      top_most = t.1;
      conditions_least = n.0;
      conditions_most = n.1;
      ranged = w.0;
      single = λ c. omega (arith, lines_single (top_in ls) (conditions_in ls) 2 [] (drop 1 ls) h.others c (omega arith));
    }

pub accepted_few : (bytes : List ℕ) → text_refusal bytes ≡ none → length (page_read bytes).lines ≤ 1024
unfolding text_refusal page_in
accepted_few bytes e =
    let h = good_head (text_lines bytes) (else_none (told_at 0 (placed 0 (first_of (text_causes bytes)))) _ e).1 in
    let ls = text_lines bytes in
    omega (arith, (lines_proper (top_in ls) (conditions_in ls) 2 [] (drop 1 ls) (omega arith) h.others).1)

-- what an answer says
pub record GoodPage (bytes area : List ℕ) (used : ℕ) : Type 0 where
  pub page_sound : sound (read_of bytes area).area ≡ true
  pub short : used ≤ most_used

pub read_good : (bytes area : List ℕ) {used : ℕ} → read_page used ≡ (read_of bytes area).answer → GoodPage bytes area used
unfolding read_of refusal_of area_of
read_good bytes area {used} e = go (refusal_of bytes area) refl e
  where
    go : (o : Option Refusal) → refusal_of bytes area ≡ o → read_page used ≡ (read_as o bytes area).answer → GoodPage bytes area used
    go (some r) f e = let z : ◌≡◌ {A = ℕ} 0 1 = cc in absurd (omega arith)
    go none f e =
        let a = area_of (page_read bytes) ++ drop (used_by bytes) area in
        let s : sound a ≡ true = let t = (else_none (text_refusal bytes) _ f).0 in proper_sound (page_read bytes) (drop (used_by bytes) area) (accepted_proper bytes t) (accepted_few bytes t) in
        let q : used ≡ used_by bytes = cc in
        record { page_sound = rw f s; short = omega (arith, used_most a s) }

-- a fault with a number of at most 24 and a place of at most 12, and a refusal with such a fault and a line of at most 1,026
abbrev SmallFault : Option Fault → Type 0
SmallFault none = Unit {0}
SmallFault (some f) = (f.number ≤ 24) × (f.place ≤ 12)

pub record SmallRefusal (number line place : ℕ) : Type 0 where
  pub number_most : number ≤ 24
  pub line_most : line ≤ 1026
  pub place_most : place ≤ 12

abbrev Small : Option Refusal → Type 0
Small none = Unit {0}
Small (some r) = SmallRefusal r.number r.line r.place

small_else : (o p : Option Refusal) → Small o → Small p → Small (or_else o p)
small_else none p s t = t
small_else (some r) p s t = s

small_fault_else : (o p : Option Fault) → SmallFault o → SmallFault p → SmallFault (or_else o p)
small_fault_else none p s t = t
small_fault_else (some r) p s t = s

small_told : (line : ℕ) → line ≤ 1026 → (o : Option Fault) → SmallFault o → Small (told_at line o)
small_told line l none s = tt
small_told line l (some f) s = record { number_most = s.0; line_most = l; place_most = s.1 }

abbrev AllSmall : List Cause → Type 0
AllSmall [] = Unit {0}
AllSmall (cause t k ∷ cs) = (k ≤ 24) × AllSmall cs

small_placed : (place : ℕ) → place ≤ 12 → (cs : List Cause) → AllSmall cs → SmallFault (placed place (first_of cs))
small_placed place l [] s = tt
small_placed place l (cause true k ∷ cs) s = (s.0, l)
small_placed place l (cause false k ∷ cs) s = small_placed place l cs s.1

-- the fields of a line
abbrev AllFieldsSmall : List (List Cause) → Type 0
AllFieldsSmall [] = Unit {0}
AllFieldsSmall (cs ∷ fields) = AllSmall cs × AllFieldsSmall fields

small_leftmost : (k : ℕ) (fields : List (List Cause)) → k + length fields ≤ 13 → AllFieldsSmall fields → SmallFault (leftmost k fields)
unfolding leftmost
small_leftmost k [] l s = tt
small_leftmost k (cs ∷ fields) l s =
    small_fault_else (placed k (first_of cs)) (leftmost (suc k) fields) (small_placed k (omega arith) cs s.0) (small_leftmost (suc k) fields (omega arith) s.1)

literals_small : (n : ℕ) (ls : List Literal) → AllFieldsSmall (literal_ranges n ls) × (length (literal_ranges n ls) ≡ length ls)
literals_small n [] = (tt, refl)
literals_small n (l ∷ ls) = (((omega arith, tt), (literals_small n ls).0), ap suc (literals_small n ls).1)

fields_small : (top n : ℕ) (line : Line) → Sized line → SmallFault (leftmost 1 (line_ranges top n line))
fields_small top n (fact c l h) s =
    small_leftmost 1 (line_ranges top n (fact c l h)) (omega arith) (tt, ((omega arith, tt), ((omega arith, tt), ((omega arith, (omega arith, tt)), tt))))
fields_small top n (rule c w op lits) s =
    small_leftmost 1 (line_ranges top n (rule c w op lits)) (omega (arith, (literals_small n lits).1, s.1))
    (tt, ((omega arith, tt), ((omega arith, tt), (tt, (literals_small n lits).0))))
fields_small top n (query r c) s = small_leftmost 1 (line_ranges top n (query r c)) (omega arith) (tt, (tt, ((omega arith, tt), tt)))
fields_small top n (default c) s = small_leftmost 1 (line_ranges top n (default c)) (omega arith) (tt, ((omega arith, tt), (tt, tt)))

repeat_small : (before : List Line) (line : Line) → SmallFault (placed 0 (first_of (repeat_causes before line)))
repeat_small before (fact c l h) = tt
repeat_small before (rule c w op lits) = tt
repeat_small before (query r c) = tt
repeat_small before (default c) = small_placed 0 (omega arith) (repeat_causes before (default c)) (omega arith, tt)

line_small : (top n k : ℕ) (before : List Line) (fs : List (List ℕ)) → SmallFault (line_fault top n k before fs)
unfolding line_fault
line_small top n k before fs = go (has_form fs) refl
  where
    ranges : Option Fault
    ranges = leftmost 1 (line_ranges top n (line_in fs))

    repeats : Option Fault
    repeats = placed 0 (first_of (repeat_causes before (line_in fs)))

    go : (t : Bool) → has_form fs ≡ t → SmallFault (or_else (placed 0 (first_of (cause (eqb k 1026) 5 ∷ cause (not t) 3 ∷ []))) (or_else ranges repeats))
    go true e =
        small_fault_else (placed 0 (first_of (cause (eqb k 1026) 5 ∷ cause false 3 ∷ []))) (or_else ranges repeats)
        (small_placed 0 (omega arith) (cause (eqb k 1026) 5 ∷ cause false 3 ∷ []) (omega arith, (omega arith, tt)))
        (small_fault_else ranges repeats (fields_small top n (line_in fs) (sized fs e)) (repeat_small before (line_in fs)))
    go false e = late (eqb k 1026)
      where
        late : (t : Bool) → SmallFault (or_else (placed 0 (first_of (cause t 5 ∷ cause true 3 ∷ []))) (or_else ranges repeats))
        late true = (omega arith, omega arith)
        late false = (omega arith, omega arith)

head_small : (top n : ℕ) (fs : List (List ℕ)) → SmallFault (head_fault top n fs)
unfolding head_fault
head_small top n fs =
    small_fault_else (placed 0 (first_of (head_causes fs))) (leftmost 1 (head_ranges top n)) (small_placed 0 (omega arith) (head_causes fs) (omega arith, tt))
    (small_leftmost 1 (head_ranges top n) (omega arith) (tt, ((omega arith, tt), ((omega arith, tt), tt))))

-- line 1,026 is refused, however it looks
small_lines_lem : (top n k : ℕ) (before : List Line) (ls : List (List ℕ)) → k ≤ 1026 → Small (bad_line top n k before ls)
unfolding bad_line line_fault
small_lines_lem top n k before [] l = tt
small_lines_lem top n k before (x ∷ ls) l =
    let line = line_in (fields_of x) in
    elim (ℕ_discrete k 1026) [
      | yes e ↦ rw (eq-eqb k 1026 e) (record { number_most = omega arith; line_most = l; place_most = omega arith })
      | no e ↦ small_else (told_at k (line_fault top n k before (fields_of x))) (bad_line top n (suc k) (line ∷ before) ls)
          (small_told k l (line_fault top n k before (fields_of x)) (line_small top n k before (fields_of x))) (small_lines_lem top n (suc k) (line ∷ before) ls (omega arith))
    ]

small_text_lem : (bytes : List ℕ) → Small (text_refusal bytes)
unfolding text_refusal bad_line_of
small_text_lem bytes =
    let ls = text_lines bytes in
    let f = head_fault (top_in ls) (conditions_in ls) (fields_of (get_or ls 0 [])) in
    small_else (told_at 0 (placed 0 (first_of (text_causes bytes)))) (bad_line_of ls)
    (small_told 0 (omega arith) (placed 0 (first_of (text_causes bytes))) (small_placed 0 (omega arith) (text_causes bytes) (omega arith, (omega arith, tt))))
    (small_else (told_at 1 f) (bad_line (top_in ls) (conditions_in ls) 2 [] (drop 1 ls))
    (small_told 1 (omega arith) f (head_small (top_in ls) (conditions_in ls) (fields_of (get_or ls 0 []))))
    (small_lines_lem (top_in ls) (conditions_in ls) 2 [] (drop 1 ls) (omega arith)))

pub read_small : (bytes area : List ℕ) {number line place : ℕ} → refused_page number line place ≡ (read_of bytes area).answer → SmallRefusal number line place
unfolding read_of refusal_of
read_small bytes area {number} {line} {place} e =
    let f = placed 0 (first_of (area_causes bytes area)) in
    go (refusal_of bytes area)
    (small_else (text_refusal bytes) (told_at 0 f) (small_text_lem bytes) (small_told 0 (omega arith) f (small_placed 0 (omega arith) (area_causes bytes area) (omega arith, tt)))) e
  where
    go : (o : Option Refusal) → Small o → refused_page number line place ≡ (read_as o bytes area).answer → SmallRefusal number line place
    go none s e = let z : ◌≡◌ {A = ℕ} 0 1 = cc in absurd (omega arith)
    go (some r) s e =
        let p : number ≡ r.number = cc in
        let q : line ≡ r.line = cc in
        let w : place ≡ r.place = cc in
        record { number_most = omega (arith, s.number_most); line_most = omega (arith, s.line_most); place_most = omega (arith, s.place_most) }
