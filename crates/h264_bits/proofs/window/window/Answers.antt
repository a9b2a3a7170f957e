use Rattle.h264_bits.proofs.Peeks.{peek-window}
use Rattle.h264_bits.proofs.window.window.Goals as goal

pub returns : goal.returns
returns c = rw c.load.ensures (peek-window c.args.bytes.now c.args.i)
