-- The answers to Q lines behind the number of a trial are the lines that are printed for the trial. Assumes nothing.
use mathlib.Core.Path.{◌≡◌, refl, ap₂}
use mathlib.Core.List.{List, [], ◌∷◌, ◌++◌, append_assoc}
use Prim.Native.Nat.{ℕ}
use Rattle.semantics.specs.Fields.{number_text, joined}
use Rattle.semantics.specs.Output.{Query, Answers, answer_fields, answer_lines, printed}
use Rattle.semantics.specs.Trials.{trial_answers}
use Rattle.answers.specs.Printing.{led_lines}

pub led_trial : (number : ℕ) (A : Answers) (qs : List Query) → led_lines (number_text number ++ (44 ∷ [])) (answer_lines A qs) ≡ printed (trial_answers number A qs)
led_trial number A [] = refl
led_trial number A (q ∷ qs) =
    ap₂ {C = List ℕ} (λ (l s : List ℕ). l ++ (10 ∷ s)) (append_assoc (number_text number) (44 ∷ []) (joined (answer_fields q (A q.reading q.condition)))) (led_trial number A qs)
