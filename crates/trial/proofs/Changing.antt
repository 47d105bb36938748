-- The area of the page that a trial changes can be solved, and holds that page. Assumes nothing.
use mathlib.Core.Path.{◌≡◌, ap, ap₂, ◌∙◌}
use mathlib.Core.Bool.{true}
use mathlib.Core.List.{List, [], ◌∷◌, ◌++◌}
use Prim.Native.Nat.{ℕ, ◌+◌, ◌*◌, ◌/◌, ◌≤◌}
use native.Mathlib.Nat.{mul-le-mul}
use native.Mathlib.Omega.{arith}
use lib.ListN.{length, get_or, take, length-append}
use Rattle.print.specs.declared.Text.{Text}
use Rattle.print.specs.Texts.{Puts}
use Rattle.print.proofs.Writing.{puts_front}
use Rattle.semantics.specs.Fields.{number_text}
use Rattle.semantics.proofs.TextNumbers.{number_short}
use Rattle.semantics.specs.Output.{Query, queries_of, answer_lines}
use Rattle.semantics.proofs.Outputs.{queries_most}
use Rattle.answers.specs.Printing.{led_lines, PutLines}
use Rattle.answers.proofs.TrialLines.{led_trial}
use Rattle.page.proofs.Head.{head_of}
use Rattle.trial.specs.Parts.{ListIn, TrialPut}
use Rattle.trial.proofs.Listing.{lines_tried}
use Rattle.semantics.specs.Area.{sound, page_of, top_of, conditions_of, count_of, area_of}
use Rattle.semantics.specs.Page.{Page}
use Rattle.semantics.specs.Trials.{TrialLine, changed_page}
use Rattle.semantics.proofs.ExactAreas.{proper_sound}
use Rattle.semantics.proofs.Proper.{Proper}
use Rattle.semantics.proofs.RoundTrip.{page_area}
use Rattle.semantics.proofs.Soundness.{sound_proper, few_lines}
use Rattle.semantics.proofs.TrialLists.{AllTried}
use Rattle.semantics.proofs.TrialPages.{changed_proper, changed_few, changed_queries}
use Rattle.page.specs.Solvable.{solvable}
use Rattle.change.specs.Trial.{lines_in, changed_area}

module _ (a : List ℕ) (ok : sound a ≡ true) (ts : List TrialLine) (w : AllTried (top_of a) (conditions_of a) ts) (z : List ℕ) where
  abbrev page : Page
  page = changed_page (page_of a) ts

  proper : Proper (changed_page (page_of a) ts)
  unfolding page_of
  proper = changed_proper (page_of a) (sound_proper a ok) ts w

  few : length (changed_page (page_of a) ts).lines ≤ 1536
  few = omega (arith, changed_few (page_of a) ts, few_lines 1024 a ok, (sound_proper a ok).conditions_most)

  pub changed_solvable : solvable (area_of (changed_page (page_of a) ts) ++ z) ≡ true
  changed_solvable = proper_sound page z proper few

  pub changed_page_lem : page_of (area_of (changed_page (page_of a) ts) ++ z) ≡ changed_page (page_of a) ts
  changed_page_lem = page_area page z

-- the number of a trial has at most three digits
pub number_few : {top n : ℕ} {lines : List ℕ} → ListIn top n lines (length lines / 4) → 4 ≤ length lines → length (number_text (get_or lines 0 0)) ≤ 3
number_few {lines = lines} w l = number_short (get_or lines 0 0) (w.number 0 (omega arith))

-- the lead of a trial: its number and a comma, of at most four bytes
module _ (number : ℕ) {t t' : Text} (z : t.at ≡ 0) (w : Puts t (number_text number ++ (44 ∷ [])) t') {lead : List ℕ} (e : lead ≡ take t'.at t'.out.now) where
  pub lead_is : lead ≡ number_text number ++ (44 ∷ [])
  lead_is = e ∙ puts_front z w

  pub lead_few : length (number_text number) ≤ 3 → length lead ≤ 4
  lead_few l = omega (arith, ap length lead_is, length-append (number_text number) (44 ∷ []))

-- the whole trial
module _ (a : List ℕ) (ok : sound a ≡ true) (lines : List ℕ) (w : ListIn (top_of a) (conditions_of a) lines (length lines / 4))
    (area z : List ℕ) (made : area ≡ changed_area a lines ++ z) where
  pub area_solvable : solvable area ≡ true
  area_solvable = rw made (changed_solvable a ok (lines_in lines) (lines_tried w) z)

  area_page : page_of area ≡ changed_page (page_of a) (lines_in lines)
  area_page = rw made (changed_page_lem a ok (lines_in lines) (lines_tried w) z)

  -- at most 18 bytes for each line
  pub room_for : (n : ℕ) → n ≤ 4 → (14 + n) * count_of area ≤ 27648
  room_for n l = let h : 14 + n ≤ 18 = omega arith in omega (arith, mul-le-mul h (head_of area area_solvable).count)

  queries : queries_of (page_of area).lines ≡ queries_of (page_of a).lines
  queries = ap (λ (p : Page). queries_of p.lines) area_page ∙ changed_queries (page_of a) (lines_in lines)

  pub trial_put : {lead : List ℕ} {t t' : Text} {count : ℕ} → lead ≡ number_text (get_or lines 0 0) ++ (44 ∷ []) → length lead ≤ 4
      → PutLines (page_of area) lead (page_of area).lines 0 t t' count → TrialPut (page_of a) lines t t' count
  trial_put {lead} q l p =
      let number : ℕ = get_or lines 0 0 in
      let few : length (queries_of (page_of a).lines) ≤ 1024 = omega (arith, queries_most (page_of a).lines, few_lines 1024 a ok) in
      let narrow : 14 + length lead ≤ 18 = omega arith in
      let n : length (queries_of (page_of area).lines) ≡ length (queries_of (page_of a).lines) = ap length queries in
      record {
        counted = omega (arith, p.counted, n);
        few = omega (arith, p.counted, n, few);
        bytes = p.bytes;
        fits = omega (arith, p.short, mul-le-mul narrow few, ap (λ (k : ℕ). (14 + length lead) * k) n);
        are = λ A h. p.are A (rw area_page h)
            ∙ (ap₂ {C = List ℕ} (λ (b : List ℕ) (qs : List Query). led_lines b (answer_lines A qs)) q queries ∙ led_trial number A (queries_of (page_of a).lines));
        wrote = p.wrote;
      }
