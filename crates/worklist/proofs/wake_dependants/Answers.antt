-- `worklist::wake_dependants` meets its contract, with an index and with none. Assumes nothing.
use Rattle.worklist.proofs.Dependants.{dependants_in, dependants_marked, dependants_kept}
use Rattle.worklist.proofs.wake_dependants.Goals as goal

pub wake_heads-requires : goal.wake_heads-requires
wake_heads-requires c = dependants_in c.args.source.now.area c.in-Some.ensures.sound c.args.c c.in-Some.ensures.found.1 c.requires.0

pub returns-in-Some : goal.returns-in-Some
returns-in-Some c =
    let i = c.in-Some.ensures in
    let g = c.wake_heads.ensures in (
      dependants_marked c.args.source.now.area i.sound c.args.c i.found.1 g.0,
      record { kept = λ w. dependants_kept c.args.source.now.area i.sound c.args.c i.found.1 g.0 g.1 w },
    )
