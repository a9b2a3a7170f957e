use Rattle.std.proofs.Common.{arith}
use Rattle.h264_inter.proofs.Blocks.{block_at, block_none}
use Rattle.h264_inter.proofs.Moved.{both_at}
use Rattle.h264_inter.proofs.luma_blocks.side_block.Goals as goal

pub loop-n-init : goal.loop-n-init
loop-n-init g c = record {
  above = block_none _ _ _;
  rows = both_at _ _ _ _ _ _ _ _ (omega arith) (rw c.partner.ensures.value at c.first_windows-windows.ensures);
}

pub loop-n-preserved : goal.loop-n-preserved
loop-n-preserved g c = record {
  above = block_at _ _ _ _ _ (omega arith) c.side_line-windows-in-loop-n.ensures.rows;
  rows = both_at _ _ _ _ _ _ _ _ (omega arith) c.side_line-windows-in-loop-n.ensures.windows;
}

pub side_line-requires-clause-windows : goal.side_line-requires-clause-windows
side_line-requires-clause-windows g c = both_at _ _ _ _ _ _ _ _ (omega arith) c.loop-n.invariant.rows
