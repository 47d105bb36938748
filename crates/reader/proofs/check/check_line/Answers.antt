-- `check_line` meets its contract, by the laws of `Ranges`. Assumes nothing.
use Rattle.std.proofs.Common.{arith, Ok, Err}
use Rattle.std.proofs.lemmas.Result.{err_from_is_err_and}
use Rattle.reader.proofs.Ranges.{formless, fact_line, rule_few, rule_far, rule_line, query_line, default_line}
use Rattle.reader.proofs.check.check_line.Goals as goal

pub returns-in_default : goal.returns-in_default
returns-in_default c before w =
    let a = c.args in
    formless a.bytes.now a.at c.in_default.ensures a.head.now.top a.head.now.conditions before

pub check_rule-requires : goal.check_rule-requires
check_rule-requires c =
    let a = c.args in
    let q = rw c.in-Rule.is at c.in-Some.ensures in
    rule_far a.bytes.now a.at a.head.now.top a.head.now.conditions q

pub overflow_add-size : goal.overflow_add-size
overflow_add-size c =
    let a = c.args in
    let q = rw c.in-Rule.is at c.in-Some.ensures in
    omega (arith, rule_few a.bytes.now a.at a.head.now.top a.head.now.conditions q)

pub returns-in_err-check_fact-in-Fact : goal.returns-in_err-check_fact-in-Fact
returns-in_err-check_fact-in-Fact c =
    let a = c.args in
    let q = rw c.in-Fact.is at c.in-Some.ensures in
    let r = c.from_residual in
    let p = err_from_is_err_and r.result r.ensures.1 in
    rw (p.1, p.2) (fact_line a.bytes.now a.at a.head.now.top a.head.now.conditions q a.seen.now.words (Err c.in_err-check_fact-in-Fact.field-0.0) c.in_err-check_fact-in-Fact.ensures)

pub returns-in_ok-check_fact-in-Fact : goal.returns-in_ok-check_fact-in-Fact
returns-in_ok-check_fact-in-Fact c =
    let a = c.args in
    let q = rw c.in-Fact.is at c.in-Some.ensures in
    fact_line a.bytes.now a.at a.head.now.top a.head.now.conditions q a.seen.now.words (Ok tt) c.in_ok-check_fact-in-Fact.ensures

pub returns-in_err-check_rule-in-Rule : goal.returns-in_err-check_rule-in-Rule
returns-in_err-check_rule-in-Rule c =
    let a = c.args in
    let q = rw c.in-Rule.is at c.in-Some.ensures in
    let r = c.from_residual-in_err-check_rule-in-Rule in
    let p = err_from_is_err_and r.result r.ensures.1 in
    rw (p.1, p.2) (rule_line a.bytes.now a.at a.head.now.top a.head.now.conditions q a.seen.now.words (Err c.in_err-check_rule-in-Rule.field-0.0) c.in_err-check_rule-in-Rule.ensures)

pub returns-in_ok-check_rule-in-Rule : goal.returns-in_ok-check_rule-in-Rule
returns-in_ok-check_rule-in-Rule c =
    let a = c.args in
    let q = rw c.in-Rule.is at c.in-Some.ensures in
    rule_line a.bytes.now a.at a.head.now.top a.head.now.conditions q a.seen.now.words (Ok tt) c.in_ok-check_rule-in-Rule.ensures

pub returns-in_err-check_query-in-Query : goal.returns-in_err-check_query-in-Query
returns-in_err-check_query-in-Query c =
    let a = c.args in
    let q = rw c.in-Query.is at c.in-Some.ensures in
    let r = c.from_residual-in_err-check_query-in-Query in
    let p = err_from_is_err_and r.result r.ensures.1 in
    rw (p.1, p.2) (query_line a.bytes.now a.at a.head.now.top a.head.now.conditions q a.seen.now.words (Err c.in_err-check_query-in-Query.field-0.0) c.in_err-check_query-in-Query.ensures)

pub returns-in_ok-check_query-in-Query : goal.returns-in_ok-check_query-in-Query
returns-in_ok-check_query-in-Query c =
    let a = c.args in
    let q = rw c.in-Query.is at c.in-Some.ensures in
    query_line a.bytes.now a.at a.head.now.top a.head.now.conditions q a.seen.now.words (Ok tt) c.in_ok-check_query-in-Query.ensures

pub returns-in_err-check_default-in-Default : goal.returns-in_err-check_default-in-Default
returns-in_err-check_default-in-Default c =
    let a = c.args in
    let q = rw c.in-Default.is at c.in-Some.ensures in
    let r = c.from_residual-in_err-check_default-in-Default in
    let p = err_from_is_err_and r.result r.ensures.1 in
    rw (p.1, p.2) (default_line a.bytes.now a.at a.head.now.top a.head.now.conditions c.requires.1 q (Err c.in_err-check_default-in-Default.field-0.0) c.in_err-check_default-in-Default.ensures)

pub returns-in_ok-check_default-in-Default : goal.returns-in_ok-check_default-in-Default
returns-in_ok-check_default-in-Default c =
    let a = c.args in
    let q = rw c.in-Default.is at c.in-Some.ensures in
    default_line a.bytes.now a.at a.head.now.top a.head.now.conditions c.requires.1 q (Ok tt) c.in_ok-check_default-in-Default.ensures
