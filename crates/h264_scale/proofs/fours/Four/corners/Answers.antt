use Rattle.std.proofs.Common.{arith}
use Rattle.std.proofs.lemmas.Int.{ints}
use Rattle.h264_scale.proofs.Within.{four_is}
use Rattle.h264_scale.proofs.fours.Four.corners.Goals as goal

pub returns : goal.returns
returns c = four_is _ _ (omega (arith, ints)) (omega (arith, ints)) (omega (arith, ints)) (omega (arith, ints))
