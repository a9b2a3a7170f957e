use Rattle.std.proofs.Common.{arith, below_more}
use Rattle.h264_intra.proofs.chroma.fill.Goals as goal

pub loop-y-preserved : goal.loop-y-preserved
loop-y-preserved g c = record {
  size = c.loop-x.invariant.size;
  rows = below_more _ _ c.loop-x.invariant.rows (λ u p. c.loop-x.invariant.here u (omega arith));
}
