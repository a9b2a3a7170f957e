use Rattle.std.proofs.Common.{arith}
use Rattle.h264_write.proofs.Escapes.{escaped-over}
use Rattle.h264_write.proofs.escape.escape.Goals as goal

pub returns : goal.returns
returns c = escaped-over c.loop-byte.body.items c.loop-byte.zeros c.loop-byte.byte-index c.args.rbsp.now _ (omega arith) c.loop-byte.invariant.whole
