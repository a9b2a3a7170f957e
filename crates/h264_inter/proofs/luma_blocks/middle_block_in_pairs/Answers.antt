use Rattle.std.proofs.Common.{arith}
use Rattle.h264_inter.proofs.Blocks.{block_at, block_none}
use Rattle.h264_inter.proofs.Moved.{both_at}
use Rattle.h264_inter.proofs.luma_blocks.middle_block_in_pairs.Goals as goal

pub loop-n-init : goal.loop-n-init
loop-n-init g c = record {
  above = block_none _ _ _;
  rows = both_at _ _ _ _ _ _ _ _ (omega arith) (rw c.partner.ensures.value at c.first_windows-across.ensures);
  samples = both_at _ _ _ _ _ _ _ _ (omega arith) (rw c.partner-2.ensures.value at c.first_windows-samples.ensures);
}

pub loop-n-preserved : goal.loop-n-preserved
loop-n-preserved g c = record {
  above = block_at _ _ _ _ _ (omega arith) c.middle_line-in-loop-n.ensures.rows;
  rows = both_at _ _ _ _ _ _ _ _ (omega arith) c.middle_line-in-loop-n.ensures.across;
  samples = both_at _ _ _ _ _ _ _ _ (omega arith) c.middle_line-in-loop-n.ensures.samples;
}

pub middle_line-requires-then-this-eq1-clause-across : goal.middle_line-requires-then-this-eq1-clause-across
middle_line-requires-then-this-eq1-clause-across g c = both_at _ _ _ _ _ _ _ _ (omega arith) c.loop-n.invariant.rows

pub middle_line-requires-then-this-eq1-clause-samples : goal.middle_line-requires-then-this-eq1-clause-samples
middle_line-requires-then-this-eq1-clause-samples g c = both_at _ _ _ _ _ _ _ _ (omega arith) c.loop-n.invariant.samples
