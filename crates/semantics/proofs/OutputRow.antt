-- The example of document 01, "The program `attach`": what is printed for it. Assumes nothing.
use mathlib.Core.Path.{sym, ap₂}
use mathlib.Core.List.{List, [], ◌∷◌}
use Prim.Native.Nat.{ℕ, ◌≤◌}
use native.Mathlib.Omega.{arith}
use lib.ListN.{length}
use Rattle.fixpoint.specs.Interval.{Interval}
use Rattle.semantics.specs.Page.{K, W, defaults}
use Rattle.semantics.proofs.Proper.{Proper}
use Rattle.semantics.specs.Fields.{number_within, number_text}
use Rattle.semantics.specs.Written.{text_of}
use Rattle.semantics.specs.Output.{queries_of, top_fields, answer_fields, end_fields, printed, page_output, AnswersPrinted, IsOutput}
use Rattle.semantics.proofs.Rows.{rows, page1}
use Rattle.semantics.proofs.Bench.{bench}
use Rattle.semantics.proofs.Outputs.{answers_exist}
use Rattle.semantics.proofs.WrittenPages.{page_written, text_accepted}

proper1 : Proper page1
unfolding page1 defaults
proper1 =
    record {
      top_least = omega arith;
      top_most = omega arith;
      conditions_least = omega arith;
      conditions_most = omega arith;
      ranged = ((omega arith, omega arith, omega arith), ((omega arith, omega arith, omega arith), ((omega arith, omega arith, omega arith, omega arith, omega arith, (omega arith, tt)), ((omega arith, omega arith, omega arith, omega arith, omega arith, (omega arith, tt)), (omega arith, (omega arith, tt))))));
      single = λ c. omega arith;
    }

few1 : length page1.lines ≤ 1024
unfolding page1
few1 = omega arith

-- `top,10`, `K,0,2,7`, `W,1,3,8`, `end,2`
abbrev pub output1 : List ℕ
output1 =
    116 ∷ 111 ∷ 112 ∷ 44 ∷ 49 ∷ 48 ∷ 10
    ∷ 75 ∷ 44 ∷ 48 ∷ 44 ∷ 50 ∷ 44 ∷ 55 ∷ 10
    ∷ 87 ∷ 44 ∷ 49 ∷ 44 ∷ 51 ∷ 44 ∷ 56 ∷ 10
    ∷ 101 ∷ 110 ∷ 100 ∷ 44 ∷ 50 ∷ 10
    ∷ []

answered1 : AnswersPrinted page1 output1
unfolding rows page1 page_output queries_of number_text number_within
answered1 =
    let x = answers_exist page1 proper1 in
    record {
      answers = x.0;
      are = x.1;
      is = sym (ap₂ {C = List ℕ}
          (λ (p q : Interval). printed (top_fields 10 ∷ answer_fields (record { reading = K; condition = 0 }) p ∷ answer_fields (record { reading = W; condition = 1 }) q ∷ end_fields 2 ∷ []))
          (bench.0.1.every_one (x.0 K) (x.1 K)) (bench.1.1.1.0.1.every_one (x.0 W) (x.1 W)));
    }

pub output_row : IsOutput (text_of page1) output1
unfolding IsOutput
output_row = rw (text_accepted page1 proper1 few1, page_written page1 proper1 few1) answered1
