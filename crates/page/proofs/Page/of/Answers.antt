-- A sound area is solvable.
use mathlib.Core.Path.{sym, ◌∙◌}
use Rattle.page.proofs.Solvable.{sound_solvable}
use Rattle.page.proofs.Page.of.Goals as goal

pub invariant_of-result : goal.invariant_of-result
invariant_of-result c = sound_solvable _ (sym c.page_sound.ensures ∙ c.if-page_sound.true)
