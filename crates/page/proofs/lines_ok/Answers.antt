-- `lines_ok` answers as `lines_ok` does, and collects the D lines. Behind each entry that passed, the answer is that of the entries still to come
-- (`Checking`), and the set and the lines still to come make up all D lines (`Collecting`); the literals of a rule that are passed are in range.
use mathlib.Core.Path.{refl, sym}
use Prim.Native.Nat.{◌+◌, ◌≤◌}
use native.Mathlib.Omega.{arith}
use lib.ListN.{get_or}
use Rattle.page.proofs.Scan.{span_rule, span_short}
use Rattle.page.proofs.Checking.{checking_first, head_bad, short_bad, short_next, rule_bad, literals_bad, rule_next, checking_last, inside}
use Rattle.page.proofs.Defaults.{collecting_first, collecting_next, collecting_past, collected_twice, lines_bad, lines_twice, lines_end}
use Rattle.page.proofs.lines_ok.Goals as goal
use Rattle.page.proofs.lines_ok.Goals.{in-1-to-5+else-not-rule_passes+else-loop-code-test, in_default+else-not-short_ok+else-not-collect_default, in_default-via-then-k-lt1, in_default-via-else-k-lt1+else-k-lt6, then-not-short_ok-via-then-not-short_ok, then-not-short_ok-via-else-not-short_ok+then-not-collect_default}

pub loop-init : goal.loop-init
loop-init c =
    let h = c.requires.0 in
    (checking_first _ _ _ _ _ h.inside h.begins h.few (c.first_line-at.ensures, refl), collecting_first _ c.requires.1 (c.first_line-at.ensures, refl))

pub head_passes-requires : goal.head_passes-requires
head_passes-requires c = let i = c.loop.invariant.0 in (i.in_used, i.in_area)

pub returns-then-not-head_passes : goal.returns-then-not-head_passes
returns-then-not-head_passes c = lines_bad _ (head_bad _ _ _ _ _ c.loop.invariant.0 c.loop-test.true (sym c.if-not-head_passes.ensures))

pub returns-then-not-rule_passes : goal.returns-then-not-rule_passes
returns-then-not-rule_passes c =
    lines_bad _ (rule_bad _ _ _ _ _ c.loop.invariant.0 c.loop-test.true (sym c.if-not-head_passes.ensures) (omega arith) (omega arith) (sym c.if-not-rule_passes.ensures))

pub returns-then-codes-code : goal.returns-then-codes-code
returns-then-codes-code c =
    lines_bad _
    (literals_bad _ _ _ _ _ c.loop.invariant.0 c.loop-test.true (sym c.if-not-head_passes.ensures) (omega arith) (omega arith) (sym c.if-not-rule_passes.ensures) _ c.loop-code-test.true
    c.if-codes-code.true)

pub collect_default-requires : goal.collect_default-requires
collect_default-requires c =
    let i = c.loop.invariant.0 in
    let d = inside _ _ _ _ _ i c.loop-test.true (sym c.if-not-head_passes.ensures) in (omega (arith, d.0, i.in_area), omega (arith, d.1, i.few))

pub returns-then-not-short_ok : goal.returns-then-not-short_ok
returns-then-not-short_ok c =
    let i = c.loop.invariant in
    let o = sym c.if-not-head_passes.ensures in
    elim c.then-not-short_ok.branch [
      | then-not-short_ok-via-then-not-short_ok w ↦
          lines_bad _ (short_bad _ _ _ _ _ i.0 c.loop-test.true o
          (elim c.in_default.branch [
            | in_default-via-then-k-lt1 z ↦ λ l. omega arith
            | in_default-via-else-k-lt1+else-k-lt6 z ↦ λ l. omega arith
          ])
          (c.short_ok.ensures _ _)
          w.if-not-short_ok.true)
      | then-not-short_ok-via-else-not-short_ok+then-not-collect_default w ↦
          lines_twice _ (collected_twice _ i.1 c.loop-test.true i.0.few (inside _ _ _ _ _ i.0 c.loop-test.true o).1 w.collect_default.ensures w.if-not-collect_default.true)
    ]

pub returns-after-loop : goal.returns-after-loop
returns-after-loop c = lines_end _ c.loop.invariant.1 (omega arith) (checking_last _ _ _ _ _ c.loop.invariant.0 (omega arith))

pub loop-preserved : goal.loop-preserved
loop-preserved c =
    let i = c.loop.invariant in
    let o = sym c.if-not-head_passes.ensures in
    elim c.if-k-lt1.branch [
      | in-1-to-5+else-not-rule_passes+else-loop-code-test w ↦
          rw (w.at-is, w.seen-is) (
            rule_next _ _ _ _ _ i.0 c.loop-test.true o (omega arith) (omega arith) (sym w.if-not-rule_passes.ensures) (λ j l. w.loop-code.invariant j (omega arith)),
            collecting_past _ i.1 c.loop-test.true (omega (arith, span_rule (get_or c.args.a.now (c.loop.at + 1) 0) (get_or c.args.a.now (c.loop.at + 3) 0) (omega arith) (omega arith))) (λ e. omega arith),
          )
      | in_default+else-not-short_ok+else-not-collect_default w ↦
          let f : 1 ≤ get_or c.args.a.now (c.loop.at + 1) 0 → 6 ≤ get_or c.args.a.now (c.loop.at + 1) 0 =
          elim w.in_default.branch [
            | in_default-via-then-k-lt1 z ↦ λ l. omega arith
            | in_default-via-else-k-lt1+else-k-lt6 z ↦ λ l. omega arith
          ] in
          rw (w.at-is, w.seen-is) (
            short_next _ _ _ _ _ i.0 c.loop-test.true o f (w.short_ok.ensures _ _) w.if-not-short_ok.false,
            collecting_next _ i.1 c.loop-test.true (omega (arith, span_short (get_or c.args.a.now (c.loop.at + 1) 0) (get_or c.args.a.now (c.loop.at + 3) 0) f)) w.collect_default.ensures w.if-not-collect_default.false,
          )
    ]
