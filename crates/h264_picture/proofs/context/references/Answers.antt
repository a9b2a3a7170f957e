use Rattle.std.proofs.Common.{arith, None, slice_get}
use Rattle.std.specs.Option.{option_and_then}
use Rattle.h264_picture.specs.Context.{picture_in}
use Rattle.h264_recon.proofs.Tables.{table-same}
use Rattle.h264_picture.proofs.context.references.Goals as goal

pub returns : goal.returns
returns c = table-same c.loop-k.pictures 16 (λ k. option_and_then picture_in (slice_get c.args.list.now k)) None c.loop-k.invariant.size
    (λ k i. c.loop-k.invariant.here k (omega arith))
