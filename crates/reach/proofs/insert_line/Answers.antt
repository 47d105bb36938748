-- `insert_line` meets its contract, by the kind of the line.
use mathlib.Core.Path.{sym, ◌∙◌, ap}
use mathlib.Core.List.{map}
use native.Mathlib.Omega.{arith}
use Rattle.semantics.specs.Area.{literal_of}
use Rattle.semantics.specs.Page.{mentions}
use Rattle.page.proofs.LineNumbers.{rule_in}
use Rattle.page.proofs.Naming.{line_rule, line_fact, line_over}
use Rattle.reach.proofs.Inserting.{inserts_none, inserts_as}
use Rattle.reach.proofs.Naming.{rule_codes}
use Rattle.reach.proofs.insert_line.Goals as goal

pub insert_literals-requires : goal.insert_literals-requires
insert_literals-requires g c =
    let e = c.entry-line.ensures in
    rw c.literals.ensures.value (rule_codes (rule_in _ e.sound (record { line = c.requires; least = omega (arith, e.value.kind_is); most = omega (arith, e.value.kind_is) })) e.inside.1)

pub returns-in-1-to-5 : goal.returns-in-1-to-5
returns-in-1-to-5 g c =
    let k = c.entry-line.ensures.value.kind_is in
    inserts_as c.insert_literals.ensures
    (λ x. ap (λ codes. mentions (map literal_of codes) x) c.literals.ensures.value ∙ sym (line_rule c.args.page.now c.args.at x (omega arith) (omega arith)))

pub returns-in_default : goal.returns-in_default
returns-in_default g c = let k = c.entry-line.ensures.value.kind_is in inserts_none _ _ (λ x. line_fact c.args.page.now c.args.at x (omega arith))

pub returns-in_default-2 : goal.returns-in_default-2
returns-in_default-2 g c = let k = c.entry-line.ensures.value.kind_is in inserts_none _ _ (λ x. line_over c.args.page.now c.args.at x (omega arith))
