-- `page_sound` answers as `sound` does: by the head, the lines and the D numbers.
use mathlib.Core.Path.{sym, ◌∙◌}
use Rattle.page.proofs.Sounding.{headed, head_fails, lines_fail, numbers_last}
use Rattle.page.proofs.page_sound.Goals as goal

pub returns-then-not-head_sound : goal.returns-then-not-head_sound
returns-then-not-head_sound c = head_fails _ (sym c.head_sound.ensures ∙ c.if-not-head_sound.true)

pub lines_ok-requires : goal.lines_ok-requires
lines_ok-requires c = (headed _ (sym c.head_sound.ensures ∙ c.if-not-head_sound.false), λ d l. c.empty-seen.ensures d)

pub returns-then-lines_ok : goal.returns-then-lines_ok
returns-then-lines_ok c = c.numbers_tell.ensures ∙ numbers_last _ c.lines_ok.ensures (sym c.head_sound.ensures ∙ c.if-not-head_sound.false) c.if-lines_ok.true

pub returns-else-lines_ok : goal.returns-else-lines_ok
returns-else-lines_ok c = c.if-lines_ok.false ∙ lines_fail _ c.lines_ok.ensures c.if-lines_ok.false
