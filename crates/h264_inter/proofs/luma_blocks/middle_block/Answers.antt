use Rattle.std.proofs.Common.{arith}
use Rattle.h264_inter.proofs.Blocks.{block_none}
use Rattle.h264_inter.proofs.Moved.{both_at}
use Rattle.h264_inter.proofs.luma_blocks.middle_block.Goals as goal

pub loop-v-init : goal.loop-v-init
loop-v-init g c = record {
  above = block_none _ _ _;
  rows = both_at _ _ _ _ _ _ _ _ (omega arith) (rw c.partner.ensures.value at c.first_windows-across.ensures);
  samples = both_at _ _ _ _ _ _ _ _ (omega arith) (rw c.partner-2.ensures.value at c.first_windows-samples.ensures);
}
