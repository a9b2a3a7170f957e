use Rattle.std.proofs.Common.{arith}
use Rattle.h264_scale.proofs.Fits.{block_wide}
use Rattle.h264_scale.proofs.Within.{within_summed, within_transposed, within_block}
use Rattle.h264_scale.proofs.fours.Block.hadamard.Goals as goal

pub summed-requires-2 : goal.summed-requires-2
summed-requires-2 c =
    let m = c.args.self in
    rw (c.transposed.ensures, c.summed.ensures)
    (within_block 131072 262144 _ (omega arith) (within_transposed 131072 _ (within_summed 32768 m (block_wide m c.requires))))
