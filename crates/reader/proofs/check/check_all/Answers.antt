-- `check_all` meets its contract, by the laws of `Texts`. Assumes nothing.
use Rattle.std.proofs.Common.{◌≡◌, refl, rules}
use Rattle.std.proofs.lemmas.Result.{err_from_is_err_and}
use Rattle.reader.specs.declared.Cause.TheVariants.{Form}
use Rattle.reader.proofs.Mapped.{mapped_ok, mapped_err}
use Rattle.reader.proofs.Texts.{no_head, far_head, conditions_few, accepted, refused}
use Rattle.reader.proofs.check.check_all.Goals as goal

pub returns-in_err-head : goal.returns-in_err-head
returns-in_err-head c =
    let p = err_from_is_err_and c.from_residual.result c.from_residual.ensures.1 in
    let e : c.in_err-head.field-0.0 ≡ record { cause = Form; line = 1; place = 0 } = cc (rw c.in_err-head.ensures.ok_part at c.in_err-head.ensures.value, c.at.ensures) in
    rw (p.1, p.2, e) (no_head c.args.bytes.now (rw c.in_err-head.ensures.ok_part at c.parse_head.ensures))

pub returns-in_err-map_err : goal.returns-in_err-map_err
returns-in_err-map_err c =
    let h = rw c.in_ok-head.ensures.ok_part at c.parse_head.ensures in
    let e = mapped_err _ _ c.check_head.result c.in_err-map_err.ensures.variant c.in_err-map_err.ensures.cases in
    let p = err_from_is_err_and c.from_residual-in_err-map_err.result c.from_residual-in_err-map_err.ensures.1 in
    let f = e.2 in
    let d : c.in_err-map_err.field-0.0 ≡ record { cause = e.0.cause; line = 1; place = e.0.place } = search rules in
    rw (p.1, p.2, d) (far_head c.args.bytes.now h (rw e.1 at c.check_head.ensures) refl)

pub check_lines-requires : goal.check_lines-requires
check_lines-requires c =
    let h = rw c.in_ok-head.ensures.ok_part at c.parse_head.ensures in
    (c.requires.0, conditions_few c.args.bytes.now h (rw (mapped_ok _ _ c.check_head.result c.in_ok-map_err.ensures.variant c.in_ok-map_err.ensures.cases) at c.check_head.ensures) refl, c.requires.1)

pub returns-in_err-tally : goal.returns-in_err-tally
returns-in_err-tally c =
    let h = rw c.in_ok-head.ensures.ok_part at c.parse_head.ensures in
    let p = err_from_is_err_and c.from_residual-in_err-tally.result c.from_residual-in_err-tally.ensures.1 in
    rw (p.1, p.2) (refused c.args.bytes.now h (rw (mapped_ok _ _ c.check_head.result c.in_ok-map_err.ensures.variant c.in_ok-map_err.ensures.cases) at c.check_head.ensures) refl c.in_err-tally.ensures)

pub returns : goal.returns
returns c =
    let h = rw c.in_ok-head.ensures.ok_part at c.parse_head.ensures in
    accepted c.args.bytes.now h (rw (mapped_ok _ _ c.check_head.result c.in_ok-map_err.ensures.variant c.in_ok-map_err.ensures.cases) at c.check_head.ensures) refl c.check_lines.new.seen.words c.in_ok-tally.ensures
