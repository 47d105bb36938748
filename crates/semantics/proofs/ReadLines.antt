-- What it says of a text that none of its lines is bad. Assumes nothing.
use mathlib.Core.Path.{◌≡◌, refl, sym}
use mathlib.Core.Bool.{Bool, true, false, not, ◌||◌, false≢true}
use mathlib.Core.List.{List, [], ◌∷◌}
use mathlib.Core.Option.{Option, none, some}
use Prim.Native.Nat.{ℕ, suc, ◌-◌}
use lib.Dec.{eqb, ltb}
use lib.ListN.{length, get_or, drop}
use Rattle.semantics.specs.Call.{first_of}
use Rattle.semantics.specs.Page.{Line}
use Rattle.semantics.specs.Text.{text_lines, fields_of, is_head, has_form, line_in, top_in, conditions_in}
use Rattle.semantics.specs.ReadPage.{Fault, placed, told_at, or_else, text_causes, head_ranges, line_ranges, leftmost, head_causes, head_fault, repeat_causes, line_causes, line_fault, bad_line, bad_line_of, text_refusal, used_by, area_causes, refusal_of}
use Rattle.semantics.proofs.FieldRanges.{some_none, else_none, no_cause_placed, NoFault, no_fault}
use Rattle.semantics.proofs.Invariant.{NoCause}

pub told_none : (k : ℕ) (o : Option Fault) → told_at k o ≡ none → o ≡ none
told_none k none e = refl
told_none k (some f) e = some_none e

not_false : (t : Bool) → not t ≡ false → t ≡ true
not_false true e = refl
not_false false e = sym e

-- a line after the first that is not bad, and those behind it
pub record GoodLine (top n k : ℕ) (before : List Line) (l : List ℕ) (ls : List (List ℕ)) : Type 0 where
  pub early : eqb k 1026 ≡ false
  pub form : has_form (fields_of l) ≡ true
  pub range : NoFault (line_ranges top n (line_in (fields_of l)))
  pub alone : NoCause (repeat_causes before (line_in (fields_of l)))
  pub others : bad_line top n (suc k) (line_in (fields_of l) ∷ before) ls ≡ none

pub good_line : (top n k : ℕ) (before : List Line) (l : List ℕ) (ls : List (List ℕ)) → bad_line top n k before (l ∷ ls) ≡ none → GoodLine top n k before l ls
unfolding bad_line line_fault
good_line top n k before l ls e =
    let fs = fields_of l in
    let line = line_in fs in
    let r = placed 0 (first_of (repeat_causes before line)) in
    let w = else_none (told_at k (line_fault top n k before fs)) (bad_line top n (suc k) (line ∷ before) ls) e in
    let f = else_none (placed 0 (first_of (line_causes k fs))) (or_else (leftmost 1 (line_ranges top n line)) r) (told_none k (line_fault top n k before fs) w.0) in
    let g = else_none (leftmost 1 (line_ranges top n line)) r f.1 in
    let c = no_cause_placed 0 (line_causes k fs) f.0 in
    record {
      early = c.0;
      form = not_false (has_form fs) c.1.0;
      range = no_fault 1 (line_ranges top n line) g.0;
      alone = no_cause_placed 0 (repeat_causes before line) g.1;
      others = w.1;
    }

-- the first line, and those behind it
pub record GoodHead (ls : List (List ℕ)) : Type 0 where
  pub form : is_head (fields_of (get_or ls 0 [])) ≡ true
  pub range : NoFault (head_ranges (top_in ls) (conditions_in ls))
  pub others : bad_line (top_in ls) (conditions_in ls) 2 [] (drop 1 ls) ≡ none

pub good_head : (ls : List (List ℕ)) → bad_line_of ls ≡ none → GoodHead ls
unfolding bad_line_of head_fault
good_head ls e =
    let fs = fields_of (get_or ls 0 []) in
    let r = head_ranges (top_in ls) (conditions_in ls) in
    let o = head_fault (top_in ls) (conditions_in ls) fs in
    let w = else_none (told_at 1 o) (bad_line (top_in ls) (conditions_in ls) 2 [] (drop 1 ls)) e in
    let f = else_none (placed 0 (first_of (head_causes fs))) (leftmost 1 r) (told_none 1 o w.0) in
    let c = no_cause_placed 0 (head_causes fs) f.0 in
    record { form = not_false (is_head fs) c.0; range = no_fault 1 r f.1; others = w.1 }

-- the text before its lines
pub record GoodText (bytes : List ℕ) : Type 0 where
  pub short : ltb 65535 (length bytes) ≡ false
  pub filled : eqb (length bytes) 0 ≡ false
  pub ended : eqb (get_or bytes (length bytes - 1) 0) 10 ≡ true
  pub lines : bad_line_of (text_lines bytes) ≡ none

pub good_text : (bytes : List ℕ) → text_refusal bytes ≡ none → GoodText bytes
unfolding text_refusal
good_text bytes e =
    let f = placed 0 (first_of (text_causes bytes)) in
    let w = else_none (told_at 0 f) (bad_line_of (text_lines bytes)) e in
    let c = no_cause_placed 0 (text_causes bytes) (told_none 0 f w.0) in
    let d = neither (eqb (length bytes) 0) (eqb (get_or bytes (length bytes - 1) 0) 10) c.1.0 in
    record { short = c.0; filled = d.0; ended = d.1; lines = w.1 }
  where
    neither : (t u : Bool) → (t || not u) ≡ false → (t ≡ false) × (u ≡ true)
    neither true u e = absurd (false≢true (sym e))
    neither false u e = (refl, not_false u e)

-- the text and the area
pub record GoodRead (bytes area : List ℕ) : Type 0 where
  pub text : text_refusal bytes ≡ none
  pub room : ltb (length area) (used_by bytes) ≡ false

pub good_read : (bytes area : List ℕ) → refusal_of bytes area ≡ none → GoodRead bytes area
unfolding refusal_of
good_read bytes area e =
    let f = placed 0 (first_of (area_causes bytes area)) in
    let w = else_none (text_refusal bytes) (told_at 0 f) e in
    record { text = w.0; room = (no_cause_placed 0 (area_causes bytes area) (told_none 0 f w.1)).0 }
