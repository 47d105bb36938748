-- What reading a list answers and leaves, by what the two passes come to. Assumes nothing.
use mathlib.Core.Path.{◌≡◌, refl, sym, ◌∙◌, ap}
use mathlib.Core.List.{List, ◌++◌}
use Prim.Native.Nat.{ℕ, ◌+◌, ◌*◌, ◌≤◌}
use native.Mathlib.Omega.{arith}
use lib.ListN.{length, drop}
use lib.Seq.{sets, sets-eq}
use Rattle.semantics.specs.Page.{Page}
use Rattle.semantics.specs.Text.{text_lines}
use Rattle.semantics.specs.Trials.{list_refusal, trial_lines_in}
use Rattle.list.specs.Checks.{bad_in, Accepted, codes_from, LinesFit}
use Rattle.list.specs.Answers.{ListRead}
use Rattle.list.proofs.GoodLines.{all_trials}
use Rattle.list.proofs.Codes.{length_trials, length_codes}

-- what is wrong with a list for a page
pub refusal_for : (page : Page) (bytes : List ℕ) → list_refusal page bytes ≡ bad_in bytes page.top page.conditions
unfolding list_refusal
refusal_for page bytes = refl

module _ (s : List ℕ) (top n : ℕ) (list : List ℕ) where
  module _ {k : ℕ} (accepted : Accepted s top n k) (room : 4096 ≤ length list) where
    count_is : k ≡ length (trial_lines_in (text_lines s))
    count_is = accepted.count ∙ sym (length_trials (text_lines s))

    size_is : length (codes_from s 0) ≡ 4 * k
    size_is = length_codes (trial_lines_in (text_lines s)) ∙ ap (λ (x : ℕ). 4 * x) (sym count_is)

    pub lines_fit : LinesFit s 0 list 0
    lines_fit =
        record {
          forms = all_trials top n (length s) 1 0 0 (text_lines s) accepted.good;
          ended = accepted.ended;
          room = omega (arith, size_is, accepted.few);
        }

    pub list_read : {list' : List ℕ} → list' ≡ sets list 0 (codes_from s 0) → ListRead s top n k list list'
    list_read {list'} d =
        let z : 0 + length (codes_from s 0) ≡ 4 * k = omega (arith, size_is) in
        record {
          good = accepted.good;
          count = count_is;
          few = accepted.few;
          written = d ∙ sets-eq (codes_from s 0) list 0 (omega (arith, size_is, accepted.few)) ∙ ap (λ (j : ℕ). codes_from s 0 ++ drop j list) z;
        }
