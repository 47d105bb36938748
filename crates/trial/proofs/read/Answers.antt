-- `trial::read` meets its contract: the page is refused, or the list, or both are read (`Beginning`). Assumes nothing.
use Rattle.std.proofs.Common.{ap, ◌∙◌, arith}
use Rattle.std.proofs.lemmas.Result.{err_from_is_err_and}
use Rattle.semantics.specs.Area.{sound}
use Rattle.semantics.proofs.ReadProper.{read_good}
use Rattle.trial.proofs.Beginning.{page_refused, left_as_it_was, list_refused, left_refused, both_read, left_read}
use Rattle.trial.proofs.read.Goals as goal

pub returns-in_err-read_page-clause-read : goal.returns-in_err-read_page-clause-read
returns-in_err-read_page-clause-read c =
    let p = err_from_is_err_and c.from_residual.result c.from_residual.ensures.1 in
    rw (p.1, p.2.0, p.2.1) (page_refused c.args.text.now c.args.bytes.now _ (omega (arith, c.requires.0)) c.in_err-read_page.ensures.answer)

pub returns-in_err-read_page-clause-list : goal.returns-in_err-read_page-clause-list
returns-in_err-read_page-clause-list c =
    left_as_it_was c.args.text.now c.args.bytes.now _ (omega (arith, c.requires.0)) c.in_err-read_page.ensures.answer c.args.list.now

pub returns-in_err-lines-clause-read : goal.returns-in_err-lines-clause-read
returns-in_err-lines-clause-read c =
    let r = c.in_ok-read_page.ensures in
    let p = err_from_is_err_and c.from_residual-in_err-lines.result c.from_residual-in_err-lines.ensures.1 in
    rw (p.1, p.2.0, p.2.1) (list_refused c.args.text.now c.args.bytes.now _ (omega (arith, c.requires.0)) r.answer r.area _ _ c.in_err-lines.ensures)

pub returns-in_err-lines-clause-list : goal.returns-in_err-lines-clause-list
returns-in_err-lines-clause-list c =
    let r = c.in_ok-read_page.ensures in
    left_refused c.args.text.now c.args.bytes.now _ (omega (arith, c.requires.0)) r.answer r.area _ _ c.in_err-lines.ensures

pub returns-clause-read : goal.returns-clause-read
returns-clause-read c =
    let r = c.in_ok-read_page.ensures in
    both_read c.args.text.now c.args.bytes.now _ (omega (arith, c.requires.0)) r.answer r.area _ _ c.in_ok-lines.ensures
    (ap sound r.area ∙ (read_good _ _ r.answer).page_sound) (omega (arith, c.requires.1, c.read_list.auto.list))

pub returns-clause-list : goal.returns-clause-list
returns-clause-list c =
    let r = c.in_ok-read_page.ensures in
    left_read c.args.text.now c.args.bytes.now _ (omega (arith, c.requires.0)) r.answer r.area _ _ c.in_ok-lines.ensures
