use Rattle.std.proofs.Common.{◌+◌, get_or, arith}
use Rattle.h264_recon.proofs.Tables.{table-same}
use Rattle.h264_recon.proofs.pcm.from.Goals as goal

pub returns : goal.returns
returns c = table-same c.loop-k.out 64 (λ k. get_or c.args.samples.now (c.args.start + k) 0) 0 c.loop-k.invariant.size
    (λ k i. c.loop-k.invariant.here k (omega arith))
