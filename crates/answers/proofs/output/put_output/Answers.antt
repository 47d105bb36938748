-- `answers::put_output` meets its contract: the text is read, and refused or answered. Assumes nothing.
use Rattle.std.proofs.Common.{◌≡◌, true, ap, ◌∙◌, arith}
use Rattle.semantics.specs.Area.{sound}
use Rattle.semantics.proofs.ReadProper.{read_good, read_small}
use Rattle.page.proofs.Solvable.{sound_solvable}
use Rattle.answers.proofs.Printing.{puts_refusal, puts_read}
use Rattle.answers.proofs.output.put_output.Goals as goal
use Rattle.answers.proofs.output.put_output.Goals.{In-Ok}

-- what is read is a sound page
read_sound : (c : In-Ok) → sound c.read_page.new.area ≡ true
read_sound c = let r = c.in-Ok.ensures in ap sound r.area ∙ (read_good _ _ r.answer).page_sound

pub invariant_of-put_page : goal.invariant_of-put_page
invariant_of-put_page c = sound_solvable _ (read_sound (goal.at.invariant_of-put_page c).In-Ok)

pub put_page-requires : goal.put_page-requires
put_page-requires c = (read_sound (goal.at.put_page-requires c).In-Ok, c.requires)

pub put_refusal-requires : goal.put_refusal-requires
put_refusal-requires c =
    let s = read_small _ _ c.in-Err.ensures.answer in
    (omega (arith, c.requires), omega (arith, c.number.ensures, s.number_most), omega (arith, s.line_most))

pub returns-in-Ok : goal.returns-in-Ok
returns-in-Ok c =
    let r = c.in-Ok.ensures in
    puts_read _ _ (omega arith) r.answer r.area c.put_page.ensures

pub returns-in-Err : goal.returns-in-Err
returns-in-Err c = puts_refusal _ _ (omega arith) c.in-Err.ensures.answer (rw c.number.ensures at c.put_refusal.ensures)
