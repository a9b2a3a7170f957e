use Rattle.std.proofs.Common.{◌≡◌, take, true}
use Rattle.h264_deblock.specs.Steps.{are_like}
use Rattle.h264_deblock.proofs.strengths.are_like.Given as goal

abbrev pub invariant-loop-motion : goal.invariant-loop-motion
invariant-loop-motion l = are_like l.first (take l.motion-index l.motions) ≡ true
