use Rattle.h264_scale.proofs.Within.{within_sum, within_difference}
use Rattle.h264_scale.proofs.fours.Block.summed.Goals as goal

pub plus-requires-clause-left : goal.plus-requires-clause-left
plus-requires-clause-left c = within_sum _ _ _ c.plus-upper.ensures c.requires.r0 c.requires.r1

pub plus-requires-clause-right : goal.plus-requires-clause-right
plus-requires-clause-right c = within_sum _ _ _ c.plus-lower.ensures c.requires.r2 c.requires.r3

pub minus-requires-clause-left : goal.minus-requires-clause-left
minus-requires-clause-left c = within_sum _ _ _ c.plus-upper.ensures c.requires.r0 c.requires.r1

pub minus-requires-clause-right : goal.minus-requires-clause-right
minus-requires-clause-right c = within_sum _ _ _ c.plus-lower.ensures c.requires.r2 c.requires.r3

pub minus-requires-2-clause-left : goal.minus-requires-2-clause-left
minus-requires-2-clause-left c = within_difference _ _ _ c.minus-first.ensures c.requires.r0 c.requires.r1

pub minus-requires-2-clause-right : goal.minus-requires-2-clause-right
minus-requires-2-clause-right c = within_difference _ _ _ c.minus-last.ensures c.requires.r2 c.requires.r3

pub plus-requires-2-clause-left : goal.plus-requires-2-clause-left
plus-requires-2-clause-left c = within_difference _ _ _ c.minus-first.ensures c.requires.r0 c.requires.r1

pub plus-requires-2-clause-right : goal.plus-requires-2-clause-right
plus-requires-2-clause-right c = within_difference _ _ _ c.minus-last.ensures c.requires.r2 c.requires.r3
