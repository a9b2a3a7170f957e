use Rattle.std.proofs.Common.{◌≡◌, take}
use Rattle.h264_near.proofs.block.are_blank.Given as goal
use Rattle.h264_near.specs.Coded.{are_blank}

abbrev pub invariant-loop-total : goal.invariant-loop-total
invariant-loop-total l = l.blank ≡ are_blank (take l.total-index l.totals)
