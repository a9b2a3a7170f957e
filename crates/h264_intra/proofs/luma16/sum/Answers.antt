use Rattle.std.proofs.Common.{arith}
use Rattle.h264_intra.proofs.Totals.{sum_none, sum_more}
use Rattle.h264_intra.proofs.luma16.sum.Goals as goal

pub loop-k-init : goal.loop-k-init
loop-k-init c = record { sum = sum_none _; bound = omega arith }

pub loop-k-preserved : goal.loop-k-preserved
loop-k-preserved c = record {
  sum = sum_more _ _ _ _ c.loop-k.invariant.sum c.from-sum.ensures;
  bound = omega arith;
}
