-- `attach::main` is safe: no output is longer than the array for it.
use Rattle.std.proofs.Common.{ℕ, ◌≤◌, List, arith, sym, length-take-le}
use Rattle.semantics.specs.Output.{Prints}
use Rattle.semantics.proofs.Outputs.{output_short}
use Rattle.attach.proofs.main.Goals as goal

fits : {text out out' : List ℕ} {n : ℕ} → Prints text out out' n → n ≤ 14353
fits {text} p = omega (arith, p.size_is, output_short text p.output p.is_output)

pub slice_bounds-output-end : goal.slice_bounds-output-end
slice_bounds-output-end c = let p = c.answer_page-size in omega (arith, fits p.ensures, p.auto.out)

pub slice_bounds-write_all-end : goal.slice_bounds-write_all-end
slice_bounds-write_all-end c = let p = c.answer_page-size in sym (length-take-le p.result p.new.out (omega (arith, fits p.ensures, p.auto.out)))
