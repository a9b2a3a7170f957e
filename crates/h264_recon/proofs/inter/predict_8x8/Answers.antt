use Rattle.std.proofs.Common.{◌≡◌, ◌+◌, ◌*◌, arith}
use Rattle.h264_recon.proofs.Parts.{none_made, all_made}
use Rattle.h264_recon.proofs.inter.predict_8x8.Goals as goal
use Rattle.h264_near.proofs.Places.{number-below}

pub loop-quarter-init : goal.loop-quarter-init
loop-quarter-init c = none_made _ _ _ _ _ _

pub loop-quarter-preserved : goal.loop-quarter-preserved
loop-quarter-preserved c = let e : 4 * (c.loop-quarter.quarter + 1) ≡ 4 * c.loop-quarter.quarter + 4 = omega arith in rw e c.predict_sub_macroblock.ensures

pub returns : goal.returns
returns c = let e : c.loop-quarter.quarter ≡ 4 = omega arith in all_made _ 16 _ _ _ _ _ number-below (rw e at c.loop-quarter.invariant)
