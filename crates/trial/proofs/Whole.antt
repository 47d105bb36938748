-- The first line, the answers of one trial after another, and the last line are the output. Assumes nothing.
use mathlib.Core.Path.{◌≡◌, refl, sym, ◌∙◌, ap, ap₂}
use mathlib.Core.List.{List, [], ◌∷◌, ◌++◌}
use mathlib.Core.Option.{none}
use Prim.Native.Nat.{ℕ, ◌+◌, ◌*◌, ◌/◌}
use native.Mathlib.Omega.{arith}
use lib.ListN.{length, get_or, take}
use Rattle.print.specs.declared.Text.{Text}
use Rattle.print.proofs.Writing.{puts_front}
use Rattle.semantics.specs.Area.{page_of}
use Rattle.semantics.specs.Output.{Answers, queries_of, end_fields, top_fields, printed}
use Rattle.semantics.specs.Page.{Page}
use Rattle.semantics.specs.ReadPage.{page_read}
use Rattle.semantics.specs.Trials.{Trial, trials_of, list_refusal, list_read, changed_page, AreAnswered, IsTrialsOutput}
use Rattle.semantics.proofs.Outputs.{answers_exist}
use Rattle.semantics.proofs.Proper.{Proper}
use Rattle.semantics.proofs.ReadProper.{accepted_proper}
use Rattle.semantics.proofs.TrialPages.{changed_proper}
use Rattle.semantics.proofs.Trials.{TrialsTried, accepted_trials, trial_output, trial_outputs, list_output_lem}
use Rattle.change.specs.Trial.{lines_at, lines_in}
use Rattle.change.proofs.Parts.{lines_part}
use Rattle.page.proofs.Head.{top_is}
use Rattle.trial.specs.Parts.{AllPut, no_more, one_more, BothBegun}

-- the trials of a list have answers, and these are their bytes
record Told (page : Page) (ts : List Trial) (bytes : List ℕ) (k : ℕ) : Type 0 where
  pub answers : List Answers
  pub are : AreAnswered page ts answers
  pub is : bytes ≡ trial_outputs ts answers (queries_of page.lines)
  pub counted : k ≡ length ts * length (queries_of page.lines)

told_first : (page : Page) → Proper page → (t : Trial) (ts : List Trial) {first bytes : List ℕ} {count k : ℕ} → TrialsTried page.top page.conditions (t ∷ ts)
    → ((A : Answers) → AreAnswered page (t ∷ []) (A ∷ []) → first ≡ trial_output t.number A (queries_of page.lines)) → count ≡ length (queries_of page.lines) → Told page ts bytes k
    → Told page (t ∷ ts) (first ++ bytes) (count + k)
unfolding trial_outputs
told_first page w t ts h f c s =
    let x = answers_exist (changed_page page t.lines) (changed_proper page w t.lines h.0) in
    record {
      answers = x.0 ∷ s.answers;
      are = (x.1, s.are);
      is = ap₂ {C = List ℕ} (λ (a b : List ℕ). a ++ b) (f x.0 (x.1, tt)) s.is;
      counted = omega (arith, c, s.counted);
    }

module _ (page : Page) (w : Proper page) where
  all_told : {list bytes : List ℕ} {k : ℕ} → AllPut page list bytes k → TrialsTried page.top page.conditions (trials_of (lines_in list))
      → Told page (trials_of (lines_in list)) bytes k
  unfolding trials_of lines_at trial_outputs
  all_told {list} (no_more l) h =
      let e : length list / 4 ≡ 0 = omega arith in
      rw e (record { answers = []; are = tt; is = refl; counted = omega arith })
  all_told (one_more {trial = trial} f z p more) h =
      rw f.first
      (let g = rw f.first at h in
      told_first page w (record { number = get_or trial 0 0; lines = lines_in trial }) _ g (λ A r. puts_front z p.wrote ∙ p.are A r.0) p.counted (all_told more g.1))

-- what `begin` writes, what `answer_trial` writes for one trial after another, and the last line
pub parts_output : (text bytes a list : List ℕ) {t t' : Text} {lines : ℕ} → t.at ≡ 0 → BothBegun text bytes a list t t' lines
    → {body : List ℕ} {k : ℕ} → AllPut (page_of a) (take (4 * lines) list) body k
    → IsTrialsOutput text bytes (take t'.at t'.out.now ++ (body ++ printed (end_fields k ∷ [])))
unfolding IsTrialsOutput
parts_output text bytes a list {lines = lines} z b {body} {k} p =
    let r = b.read in
    let l : list_refusal (page_read text) bytes ≡ none = ap (λ (q : Page). list_refusal q bytes) (sym r.page_is) ∙ r.list_accepted in
    let same : lines_in (take (4 * lines) list) ≡ list_read bytes = lines_part lines list r.in_range.inside ∙ r.same in
    let q : AllPut (page_read text) (take (4 * lines) list) body k = rw r.page_is at p in
    let w = accepted_proper text r.accepted in
    let s = all_told (page_read text) w q (rw same (accepted_trials text bytes l)) in
    let t : Told (page_read text) (trials_of (list_read bytes)) body k = rw same at s in
    rw r.accepted (rw l
    (record {
      answers = t.answers;
      are = t.are;
      is = ap₂ {C = List ℕ} (λ (x y : List ℕ). x ++ y)
          (puts_front z b.wrote ∙ ap (λ (n : ℕ). printed (top_fields n ∷ [])) (sym (top_is a) ∙ ap (λ (x : Page). x.top) r.page_is))
          (ap₂ {C = List ℕ} (λ (x : List ℕ) (n : ℕ). x ++ printed (end_fields n ∷ [])) t.is t.counted)
          ∙ sym (list_output_lem (page_read text) (trials_of (list_read bytes)) t.answers);
    }))
