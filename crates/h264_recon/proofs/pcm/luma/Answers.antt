use Rattle.std.proofs.Common.{get_or, arith}
use Rattle.h264_recon.specs.Predicted.{pcm_of}
use Rattle.h264_recon.proofs.Tables.{table-same}
use Rattle.h264_recon.proofs.pcm.luma.Goals as goal

pub returns : goal.returns
unfolding pcm_of
returns c = table-same c.loop-k.out 256 (λ k. get_or c.args.samples.now k 0) 0 c.loop-k.invariant.size (λ k i. c.loop-k.invariant.here k (omega arith))
