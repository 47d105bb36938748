-- `small::small_page` meets its contract: each test is a cause, in its order; the text is made, and copied. Assumes nothing.
use mathlib.Core.Path.{sym, ap, ◌∙◌}
use native.Mathlib.Omega.{arith}
use Rattle.print.proofs.Writing.{puts_fits}
use Rattle.semantics.specs.SmallPages.{wrote_small, SmallOutcome}
use Rattle.small.proofs.Texts.{small_70, small_71, small_wrote, made_length, copied}
use Rattle.small.proofs.small_page.Goals as goal

pub returns-then-number-gt241 : goal.returns-then-number-gt241
returns-then-number-gt241 c =
    let e = small_70 c.args.number c.args.buffer.now (omega arith) in
    record { answer = sym (ap (λ (o : SmallOutcome). o.answer) e); buffer = sym (ap (λ (o : SmallOutcome). o.buffer) e) }

pub returns-then-buffer-text : goal.returns-then-buffer-text
returns-then-buffer-text c =
    let l = made_length c.args.number (omega arith) c.new-text.ensures.place c.put_page.ensures in
    let e = small_71 c.args.number c.args.buffer.now (omega arith) (omega (arith, l)) in
    record { answer = sym (ap (λ (o : SmallOutcome). o.answer) e); buffer = sym (ap (λ (o : SmallOutcome). o.buffer) e) }

pub written-requires : goal.written-requires
written-requires c = puts_fits c.put_page.ensures

pub returns : goal.returns
returns c =
    let z = c.new-text.ensures.place in
    let l = made_length c.args.number (omega arith) z c.put_page.ensures in
    let e = small_wrote c.args.number c.args.buffer.now (omega arith) (omega (arith, l)) in
    record {
      answer = ap wrote_small l ∙ sym (ap (λ (o : SmallOutcome). o.answer) e);
      buffer = copied c.args.number (omega arith) z c.put_page.ensures c.written.ensures c.put_all.ensures ∙ sym (ap (λ (o : SmallOutcome). o.buffer) e);
    }
