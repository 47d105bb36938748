-- `stalls::drive_part` meets its contract. Assumes nothing.
use mathlib.Core.Path.{◌∙◌}
use Rattle.stalls.specs.Answers.{stall_of}
use Rattle.stalls.proofs.Lent.{lent_sound, drives_lent}
use Rattle.stalls.proofs.drive_part.Goals as goal

pub drive_counted-requires : goal.drive_counted-requires
drive_counted-requires c =
    (c.requires.0, lent_sound c.args.page.now (stall_of c.args.stall) c.args.area.now c.requires.1 c.beginning-at.ensures ∙ c.requires.2)

pub returns : goal.returns
returns c =
    drives_lent c.args.page.now (stall_of c.args.stall) c.args.area.now c.requires.1 c.beginning-at.ensures c.drive_counted.ensures
