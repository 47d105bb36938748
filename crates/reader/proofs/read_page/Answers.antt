-- `read_page` meets its contract, by the laws of `Results`. Assumes nothing.
use Rattle.std.proofs.lemmas.Result.{err_from_is_err_and}
use Rattle.reader.proofs.Passes.{seen_none}
use Rattle.reader.proofs.Results.{refused_text, too_short, lines_fit, read_whole}
use Rattle.reader.proofs.read_page.Goals as goal

pub check_page-requires : goal.check_page-requires
check_page-requires c = seen_none c.empty-seen.result.eight c.empty-seen.ensures

pub returns-in_err-page : goal.returns-in_err-page
returns-in_err-page c =
    let q = err_from_is_err_and c.from_residual.result c.from_residual.ensures.1 in
    let r = refused_text c.args.bytes.now c.args.area.now c.in_err-page.ensures in
    record { answer = rw (q.1, q.2) r.0; area = r.1 }

pub returns-then-area-page : goal.returns-then-area-page
returns-then-area-page c =
    let p = c.in_ok-page.ensures in
    let r = too_short c.args.bytes.now c.args.area.now c.check_page.new.seen.words p.0 p.1 c.if-area-page.true in
    record { answer = rw c.from.ensures r.0; area = r.1 }

pub write_lines-requires : goal.write_lines-requires
write_lines-requires c =
    let p = c.in_ok-page.ensures in
    rw c.put_head-start.ensures.start
    (lines_fit c.args.bytes.now c.args.area.now c.check_page.new.seen.words p.0 p.1 c.next_line-from.ensures c.if-area-page.false c.put_head-start.auto.area)

pub returns : goal.returns
returns c =
    let p = c.in_ok-page.ensures in
    let r = read_whole c.args.bytes.now c.args.area.now c.check_page.new.seen.words p.0 p.1 c.next_line-from.ensures c.if-area-page.false c.put_head-start.ensures.head
    (rw c.put_head-start.ensures.start at c.write_lines.ensures) in
    record { answer = r.0; area = r.1 }
