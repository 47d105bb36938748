-- Reading a page: the area of an accepted text is sound, and it is the one text of its page. Assumes nothing.
use mathlib.Core.Path.{◌≡◌, refl, sym, ◌∙◌, ap, ap₂}
use mathlib.Core.Bool.{true}
use mathlib.Core.List.{List, [], ◌∷◌, ◌++◌}
use mathlib.Core.Option.{none}
use Prim.Native.Nat.{ℕ, suc, ◌-◌}
use lib.ListN.{length, get_or, drop}
use borrow.Author.Tests.{eqb-true, eqb-false}
use Rattle.semantics.specs.Area.{sound, page_of, area_of}
use Rattle.semantics.specs.Page.{Line}
use Rattle.semantics.specs.Text.{text_lines, fields_of, line_in, top_in, conditions_in, lines_in, page_in}
use Rattle.semantics.specs.ReadPage.{bad_line, text_refusal, page_read, used_by, refusal_of, read_of}
use Rattle.semantics.specs.Fields.{joined, ended_lines}
use Rattle.semantics.specs.Written.{line_texts, text_of}
use Rattle.semantics.proofs.RoundTrip.{page_area}
use Rattle.semantics.proofs.ExactAreas.{proper_sound}
use Rattle.semantics.proofs.ReadLines.{good_line, good_head, good_text, good_read}
use Rattle.semantics.proofs.ReadProper.{accepted_few, accepted_proper}
use Rattle.semantics.proofs.TextParts.{ended_lines_of, joined_fields_of, some_line}
use Rattle.semantics.proofs.TextForms.{head_back, line_back}

-- The area of an accepted page is sound.
pub read_sound : (bytes area : List ℕ) → refusal_of bytes area ≡ none → sound (read_of bytes area).area ≡ true
unfolding read_of
read_sound bytes area e = rw e (proper_sound (page_read bytes) (drop (used_by bytes) area) (accepted_proper bytes (good_read bytes area e).text) (accepted_few bytes (good_read bytes area e).text))

-- What is read is what was written: an accepted text is the text of its page.
texts_back : (top n k : ℕ) (before : List Line) (ls : List (List ℕ)) → bad_line top n k before ls ≡ none → line_texts (lines_in ls) ≡ ls
unfolding lines_in
texts_back top n k before [] e = refl
texts_back top n k before (l ∷ ls) e =
    let w = good_line top n k before l ls e in
    ap₂ {C = List (List ℕ)} (λ x xs. x ∷ xs) (ap joined (line_back (fields_of l) w.form) ∙ joined_fields_of l)
    (texts_back top n (suc k) (line_in (fields_of l) ∷ before) ls w.others)

lines_cons : (s : List ℕ) → (length s ≡ 0 → ⊥) → text_lines s ≡ get_or (text_lines s) 0 [] ∷ drop 1 (text_lines s)
lines_cons [] n = absurd (n refl)
lines_cons (b ∷ s) n = some_line b s

pub read_written : (bytes : List ℕ) → text_refusal bytes ≡ none → text_of (page_read bytes) ≡ bytes
unfolding text_of page_in
read_written bytes e =
    let t = good_text bytes e in
    let ls = text_lines bytes in
    let w = good_head ls t.lines in
    let n : length bytes ≡ 0 → ⊥ = eqb-false (length bytes) 0 t.filled in
    ap ended_lines
    (ap₂ {C = List (List ℕ)} (λ x xs. x ∷ xs)
    (ap joined (head_back (fields_of (get_or ls 0 [])) w.form) ∙ joined_fields_of (get_or ls 0 []))
    (texts_back (top_in ls) (conditions_in ls) 2 [] (drop 1 ls) w.others)
    ∙ sym (lines_cons bytes n))
    ∙ ended_lines_of bytes n (eqb-true (get_or bytes (length bytes - 1) 0) 10 t.ended)

-- Two accepted texts whose areas are the same are the same text.
pub same_text : (a b y z : List ℕ) → text_refusal a ≡ none → text_refusal b ≡ none → area_of (page_read a) ++ y ≡ area_of (page_read b) ++ z → a ≡ b
same_text a b y z p q e =
    let same : page_read a ≡ page_read b = sym (page_area (page_read a) y) ∙ ap page_of e ∙ page_area (page_read b) z in
    sym (read_written a p) ∙ ap text_of same ∙ read_written b q
