use Rattle.std.proofs.Common.{◌≡◌}
use Rattle.h264_scale.proofs.Vectors.{clipped_below}
use Rattle.h264_scale.proofs.lanes.are_small.Given as goal

abbrev pub invariant-loop-x : goal.invariant-loop-x
invariant-loop-x l = l.size ≡ clipped_below l.x-index l.d
