-- `stalls::check_part` meets its contract. Assumes nothing.
use mathlib.Core.Path.{refl, sym, ◌∙◌}
use Rattle.stalls.specs.Answers.{stall_of}
use Rattle.stalls.proofs.Lent.{lent_sound}
use Rattle.stalls.proofs.check_part.Goals as goal

pub returns-then-run_sound : goal.returns-then-run_sound
returns-then-run_sound c =
    sym (c.run_sound.ensures ∙ lent_sound c.args.page.now (stall_of c.args.stall) c.args.area.now c.requires.1 c.beginning-at.ensures) ∙ c.if-run_sound.true

pub returns : goal.returns
returns c =
    (refl, sym (c.run_sound.ensures ∙ lent_sound c.args.page.now (stall_of c.args.stall) c.args.area.now c.requires.1 c.beginning-at.ensures) ∙ c.if-run_sound.false)
