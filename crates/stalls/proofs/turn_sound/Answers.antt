-- `stalls::turn_sound` meets its contract: three drives make the turn. Assumes nothing.
use native.Mathlib.Omega.{arith}
use Rattle.semantics.specs.Stalls.{half}
use Rattle.stalls.proofs.Turning.{within_1, long_1, sound_1, within_2, long_2, sound_2, within_3, turn_answers, turn_area}
use Rattle.stalls.proofs.turn_sound.Goals as goal

pub overflow_sub-allowance : goal.overflow_sub-allowance
unfolding half
overflow_sub-allowance c = within_1 _ _ c.args.allowance c.requires c.drive_part-half.ensures

pub drive_part-second-requires : goal.drive_part-second-requires
unfolding half
drive_part-second-requires c =
    let d = c.drive_part-half.ensures in
    (c.requires.0, long_1 _ _ c.args.allowance c.requires d, sound_1 _ _ c.args.allowance c.requires d)

pub overflow_add-both : goal.overflow_add-both
unfolding half
overflow_add-both c = omega (arith, within_2 _ _ c.args.allowance c.requires c.drive_part-half.ensures c.drive_part-second.ensures)

pub overflow_sub-allowance-2 : goal.overflow_sub-allowance-2
unfolding half
overflow_sub-allowance-2 c = within_2 _ _ c.args.allowance c.requires c.drive_part-half.ensures c.drive_part-second.ensures

pub drive_part-more-requires : goal.drive_part-more-requires
unfolding half
drive_part-more-requires c =
    let d = c.drive_part-half.ensures in
    let e = c.drive_part-second.ensures in
    (c.requires.0, long_2 _ _ c.args.allowance c.requires d e, sound_2 _ _ c.args.allowance c.requires d e)

pub overflow_add-taken : goal.overflow_add-taken
unfolding half
overflow_add-taken c = omega (arith, within_3 _ _ c.args.allowance c.requires c.drive_part-half.ensures c.drive_part-second.ensures c.drive_part-more.ensures)

pub returns : goal.returns
unfolding half
returns c =
    let d = c.drive_part-half.ensures in
    let e = c.drive_part-second.ensures in
    let f = c.drive_part-more.ensures in
    record {
      answer = turn_answers _ _ c.args.allowance c.requires d e f;
      left = turn_area _ _ c.args.allowance c.requires d e f;
    }
