-- A printed line, from the bytes that are written for it. Assumes nothing.
use mathlib.Core.Path.{◌≡◌, sym, ◌∙◌, ap}
use mathlib.Core.List.{List, [], ◌∷◌, ◌++◌, append_assoc, append-nil}
use Prim.Native.Nat.{ℕ, ◌+◌, ◌<◌}
use native.Mathlib.Omega.{arith}
use lib.ListN.{length-append}
use Rattle.fixpoint.specs.Interval.{Interval}
use Rattle.semantics.specs.Fields.{number_text, reading_letter}
use Rattle.semantics.proofs.TextNumbers.{number_short}
use Rattle.print.specs.declared.Text.{Text}
use Rattle.print.specs.Texts.{Room, Puts}
use Rattle.print.proofs.Writing.{puts_room}
use Rattle.semantics.specs.Output.{Query, answer_fields, refusal_fields, printed}

-- a number that ends a field or a line
abbrev ended : ℕ → ℕ → List ℕ
ended n b = number_text n ++ (b ∷ [])

-- the room behind one of three digits
module _ {n : ℕ} (few : n < 1000) where
  pub field_passed : {t t' : Text} (b k : ℕ) → Puts t (ended n b) t' → Room t (4 + k) → Room t' k
  field_passed b k w r = puts_room k w (omega (arith, number_short n few, length-append (number_text n) (b ∷ [])))

-- a field behind others
field_on : (n : ℕ) (more : List ℕ) → ended n 44 ++ more ≡ number_text n ++ (44 ∷ more)
field_on n more = append_assoc (number_text n) (44 ∷ []) more

last_on : (n : ℕ) → ended n 10 ≡ (number_text n ++ []) ++ (10 ∷ [])
last_on n = ap (λ (s : List ℕ). s ++ (10 ∷ [])) (sym (append-nil (number_text n)))

-- the last two fields of a line
two_fields : (m n : ℕ) → ended m 44 ++ ended n 10 ≡ (number_text m ++ (44 ∷ number_text n ++ [])) ++ (10 ∷ [])
two_fields m n =
    field_on m (ended n 10) ∙ ap (λ (s : List ℕ). number_text m ++ (44 ∷ s)) (last_on n)
    ∙ sym (append_assoc (number_text m) (44 ∷ number_text n ++ []) (10 ∷ []))

pub refusal_text : (number line : ℕ) → ((114 ∷ 101 ∷ 102 ∷ 117 ∷ 115 ∷ 101 ∷ 100 ∷ 44 ∷ []) ++ ended number 44) ++ ended line 10 ≡ printed (refusal_fields number line ∷ [])
refusal_text number line = ap (λ (s : List ℕ). 114 ∷ 101 ∷ 102 ∷ 117 ∷ 115 ∷ 101 ∷ 100 ∷ 44 ∷ s) (two_fields number line)

pub answer_text : (q : Query) (p : Interval)
    → ((((reading_letter q.reading ∷ []) ++ (44 ∷ [])) ++ ended q.condition 44) ++ ended p.low 44) ++ ended p.high 10 ≡ printed (answer_fields q p ∷ [])
answer_text q p =
    ap (λ (s : List ℕ). reading_letter q.reading ∷ 44 ∷ s)
    (append_assoc (ended q.condition 44) (ended p.low 44) (ended p.high 10)
    ∙ ap (λ (s : List ℕ). ended q.condition 44 ++ s) (two_fields p.low p.high)
    ∙ field_on q.condition ((number_text p.low ++ (44 ∷ number_text p.high ++ [])) ++ (10 ∷ []))
    ∙ sym (append_assoc (number_text q.condition) (44 ∷ number_text p.low ++ (44 ∷ number_text p.high ++ [])) (10 ∷ [])))
