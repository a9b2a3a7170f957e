use Rattle.std.proofs.Common.{arith}
use Rattle.h264_bits.proofs.Upcomings.{loaded-front, loaded-some}
use Rattle.h264_bits.proofs.window.loaded.Goals as goal

pub returns-clause-bits : goal.returns-clause-bits
returns-clause-bits c = let m = c.min.ensures in loaded-some c.args.bytes.now c.args.i c.load.result c.min.result c.load.ensures (omega arith)

pub returns-clause-front : goal.returns-clause-front
returns-clause-front c n few = loaded-front c.args.bytes.now c.args.i c.load.result n c.load.ensures few
