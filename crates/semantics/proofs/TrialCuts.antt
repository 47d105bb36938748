-- A text and a list of trials are judged by their first 65,536 bytes: what stands behind them changes nothing that is printed. Assumes nothing.
use mathlib.Core.Path.{◌≡◌, refl, sym, ◌∙◌, ap, ap₂, subst}
use mathlib.Core.Logic.{◌↔◌}
use mathlib.Core.Bool.{Bool, true, false, not}
use mathlib.Core.List.{List, [], ◌∷◌}
use mathlib.Core.Option.{Option, none, some}
use Prim.Native.Nat.{ℕ, zero, suc, ◌+◌, ◌-◌, ◌≤◌, ◌<◌}
use native.Mathlib.Decide.{dec_le}
use native.Mathlib.Omega.{arith}
use lib.Dec.{eqb, ltb}
use lib.ListN.{length, get_or, take, drop, length-take, length-drop}
use lib.Seq.{take_all, take-nil, length-take-le}
use borrow.Author.Tests.{lt-ltb, le-ltb, le-leb, ltb-false}
use Rattle.semantics.specs.Call.{cause, first_of}
use Rattle.semantics.specs.Page.{Page}
use Rattle.semantics.specs.ReadPage.{Refusal, placed, told_at, or_else, text_refusal, page_read}
use Rattle.semantics.specs.Text.{parted, text_lines, fields_of}
use Rattle.semantics.specs.Trials.{is_trial, trial_in, line_end, trial_range_causes, bad_trial, list_refusal, list_read, trials_of, TrialsPrintedAs, IsTrialsOutput}
use Rattle.semantics.proofs.FieldRanges.{else_none}
use Rattle.semantics.proofs.ReadLines.{good_text}
use Rattle.semantics.proofs.TextParts.{some_line}
use Rattle.semantics.proofs.TrialLists.{accepted_tried}

-- the first line of a text, and the lines behind it
abbrev first_line : List ℕ → List ℕ
first_line s = get_or (text_lines s) 0 []

first_cut : (m : ℕ) (s : List ℕ) → first_line (take m s) ≡ take m (first_line s)
unfolding text_lines
first_cut zero s = refl
first_cut (suc m) [] = refl
first_cut (suc m) (b ∷ s) = go (eqb b 10) (first_cut m s)
  where
    go : (t : Bool) → first_line (take m s) ≡ take m (first_line s) → get_or (parted t b (text_lines (take m s))) 0 [] ≡ take (suc m) (get_or (parted t b (text_lines s)) 0 [])
    go true e = refl
    go false e = ap (λ (l : List ℕ). b ∷ l) e

rest_lines : (s : List ℕ) → drop 1 (text_lines s) ≡ text_lines (drop (suc (length (first_line s))) s)
unfolding text_lines
rest_lines [] = refl
rest_lines (b ∷ s) = go (eqb b 10) (rest_lines s)
  where
    go : (t : Bool) → drop 1 (text_lines s) ≡ text_lines (drop (suc (length (first_line s))) s)
        → drop 1 (parted t b (text_lines s)) ≡ text_lines (drop (length (get_or (parted t b (text_lines s)) 0 [])) s)
    go true e = refl
    go false e = e

lines_cons : (s : List ℕ) → 0 < length s → text_lines s ≡ first_line s ∷ drop 1 (text_lines s)
lines_cons [] h = absurd (omega arith)
lines_cons (b ∷ s) h = some_line b s

drop_take : (j m r : ℕ) (s : List ℕ) → m ≡ j + r → drop j (take m s) ≡ take r (drop j s)
drop_take zero m r s e = let z : m ≡ r = omega arith in ap (λ (k : ℕ). take k s) z
drop_take (suc j) zero r s e = absurd (omega arith)
drop_take (suc j) (suc m) r [] e = sym (take-nil r)
drop_take (suc j) (suc m) r (x ∷ s) e = drop_take j m r s (omega arith)

-- a line that holds byte 65,536 is refused, whatever the length of the list is
held : (top n size k at before : ℕ) (l : List ℕ) (ls : List (List ℕ)) → at < 65536 → 65536 ≤ line_end at l
    → bad_trial top n size k at before (l ∷ ls) ≡ some (record { number = 40; line = k; place = 0 })
unfolding bad_trial
held top n size k at before l ls h i =
    rw (lt-ltb at 65536 h, le-leb 65536 (line_end at l) i) (go (not (is_trial (fields_of l))) (ltb size (line_end at l)) (eqb k 1025))
  where
    go : (a b c : Bool)
        → or_else (told_at k (placed 0 (first_of (cause a 40 ∷ cause b 40 ∷ cause c 40 ∷ cause true 40 ∷ trial_range_causes top n before (trial_in (fields_of l))))))
        (bad_trial top n size (suc k) (line_end at l) (trial_in (fields_of l)).trial ls)
        ≡ some (record { number = 40; line = k; place = 0 })
    go true b c = refl
    go false true c = refl
    go false false true = refl
    go false false false = refl

-- a line that ends before it is judged alike in two lists that both hold it
same_line : (top n size size' k at before : ℕ) (l : List ℕ) (ls ms : List (List ℕ)) → line_end at l ≤ size → line_end at l ≤ size'
    → bad_trial top n size (suc k) (line_end at l) (trial_in (fields_of l)).trial ls ≡ bad_trial top n size' (suc k) (line_end at l) (trial_in (fields_of l)).trial ms
    → bad_trial top n size k at before (l ∷ ls) ≡ bad_trial top n size' k at before (l ∷ ms)
unfolding bad_trial
same_line top n size size' k at before l ls ms h i e = rw (le-ltb size (line_end at l) h, le-ltb size' (line_end at l) i, e)

-- The lines of a list that is longer than 65,536 bytes, and those of its first 65,536, where `at` bytes stand before them.
cut_lines : (top n k at before : ℕ) (ls : List (List ℕ)) (s : List ℕ) (size room : ℕ) → text_lines s ≡ ls → size ≡ at + length s → at + room ≡ 65536 → 0 < room → 65536 < size
    → bad_trial top n 65536 k at before (text_lines (take room s)) ≡ bad_trial top n size k at before ls
cut_lines top n k at before [] s size room e z r p q =
    absurd (omega (arith, ap length (sym e ∙ lines_cons s (omega arith))))
cut_lines top n k at before (l ∷ ls) s size room e z r p q =
    let c = take room s in
    let h : 0 < length c = omega (arith, length-take room s) in
    let f : first_line s ≡ l = ap (λ (ms : List (List ℕ)). get_or ms 0 []) e in
    let g : first_line c ≡ take room l = first_cut room s ∙ ap (take room) f in
    elim (dec_le (line_end at l) 65535) [
      | yes m ↦
          let left = room - suc (length l) in
          let d = drop (suc (length l)) s in
          let g' : first_line c ≡ l = g ∙ take_all room l (omega arith) in
          let t : drop 1 (text_lines c) ≡ text_lines (take left d) =
          rest_lines c ∙ ap (λ (x : List ℕ). text_lines (drop (suc (length x)) c)) g' ∙ ap text_lines (drop_take (suc (length l)) room left s (omega arith)) in
          let u : text_lines c ≡ l ∷ text_lines (take left d) = lines_cons c h ∙ ap₂ {C = List (List ℕ)} (λ x xs. x ∷ xs) g' t in
          let v : text_lines d ≡ ls =
          sym (ap (λ (x : List ℕ). text_lines (drop (suc (length x)) s)) f) ∙ sym (rest_lines s) ∙ ap (λ (ms : List (List ℕ)). drop 1 ms) e in
          ap (bad_trial top n 65536 k at before) u
          ∙ same_line top n 65536 size k at before l (text_lines (take left d)) ls (omega arith) (omega arith)
          (cut_lines top n (suc k) (line_end at l) (trial_in (fields_of l)).trial ls d size left v (omega (arith, length-drop (suc (length l)) s)) (omega arith) (omega arith) q)
      | no m ↦
          ap (bad_trial top n 65536 k at before) (lines_cons c h)
          ∙ held top n 65536 k at before (first_line c) (drop 1 (text_lines c)) (omega arith) (omega (arith, ap length g, length-take room l))
          ∙ sym (held top n size k at before l ls (omega arith) (omega arith))
    ]

pub cut_refusal : (page : Page) (bytes : List ℕ) → list_refusal page (take 65536 bytes) ≡ list_refusal page bytes
unfolding list_refusal
cut_refusal page bytes =
    elim (dec_le (length bytes) 65536) [
      | yes l ↦ ap (list_refusal page) (take_all 65536 bytes l)
      | no l ↦
          rw (length-take-le 65536 bytes (omega arith))
          (cut_lines page.top page.conditions 1 0 0 (text_lines bytes) bytes (length bytes) 65536 refl (omega arith) (omega arith) (omega arith) (omega arith))
    ]

-- an accepted list is not cut
pub list_whole : (page : Page) (bytes : List ℕ) → list_refusal page bytes ≡ none → take 65536 bytes ≡ bytes
list_whole page bytes e = take_all 65536 bytes (omega (arith, (accepted_tried page bytes e).short))

-- A text of more than 65,535 bytes has refusal 1.
text_long : (bytes : List ℕ) → 65535 < length bytes → text_refusal bytes ≡ some (record { number = 1; line = 0; place = 0 })
unfolding text_refusal
text_long bytes l = rw (lt-ltb 65535 (length bytes) l)

pub cut_text : (bytes : List ℕ) → text_refusal (take 65536 bytes) ≡ text_refusal bytes
cut_text bytes =
    elim (dec_le (length bytes) 65536) [
      | yes l ↦ ap text_refusal (take_all 65536 bytes l)
      | no l ↦ text_long (take 65536 bytes) (omega (arith, length-take 65536 bytes)) ∙ sym (text_long bytes (omega arith))
    ]

pub text_whole : (bytes : List ℕ) → text_refusal bytes ≡ none → take 65536 bytes ≡ bytes
text_whole bytes e = take_all 65536 bytes (omega (arith, ltb-false 65535 (length bytes) (good_text bytes e).short))

-- The refusal of two files, of their first 65,536 bytes.
abbrev refusal_of_both : (text list : List ℕ) → Option Refusal
refusal_of_both text list = or_else (text_refusal text) (list_refusal (page_read text) list)

both_cut : (text list : List ℕ) → refusal_of_both (take 65536 text) (take 65536 list) ≡ refusal_of_both text list
both_cut text list = go (text_refusal text) refl
  where
    go : (o : Option Refusal) → text_refusal text ≡ o → refusal_of_both (take 65536 text) (take 65536 list) ≡ refusal_of_both text list
    go none e =
        ap (λ (t : List ℕ). refusal_of_both t (take 65536 list)) (text_whole text e)
        ∙ ap (λ (o : Option Refusal). or_else (text_refusal text) o) (cut_refusal (page_read text) list)
    go (some r) e =
        ap (λ (o : Option Refusal). or_else o (list_refusal (page_read (take 65536 text)) (take 65536 list))) (cut_text text ∙ e)
        ∙ sym (ap (λ (o : Option Refusal). or_else o (list_refusal (page_read text) list)) e)

abbrev Prints : Option Refusal → (text list output : List ℕ) → Type 0
Prints o text list output = TrialsPrintedAs o (page_read text) (trials_of (list_read list)) output

same_prints : (text list output : List ℕ) (o : Option Refusal) → refusal_of_both text list ≡ o
    → Prints o (take 65536 text) (take 65536 list) output ↔ Prints o text list output
same_prints text list output (some r) e = ((λ p. p), (λ p. p))
same_prints text list output none e =
    let h = else_none (text_refusal text) (list_refusal (page_read text) list) e in
    let t = text_whole text h.0 in
    let l = list_whole (page_read text) list h.1 in (
      (λ p. subst (λ (y : List ℕ). Prints none text y output) l (subst (λ (x : List ℕ). Prints none x (take 65536 list) output) t p)),
      (λ p. subst (λ (y : List ℕ). Prints none (take 65536 text) y output) (sym l) (subst (λ (x : List ℕ). Prints none x list output) (sym t) p)),
    )

-- so a program that reads at most 65,536 bytes of each file prints the output of the whole files
pub cut_output : (text list output : List ℕ) → IsTrialsOutput (take 65536 text) (take 65536 list) output ↔ IsTrialsOutput text list output
unfolding IsTrialsOutput
cut_output text list output =
    let e = both_cut text list in
    let s = same_prints text list output (refusal_of_both text list) refl in (
      (λ p. s.0 (subst (λ (o : Option Refusal). Prints o (take 65536 text) (take 65536 list) output) e p)),
      (λ p. subst (λ (o : Option Refusal). Prints o (take 65536 text) (take 65536 list) output) (sym e) (s.1 p)),
    )
