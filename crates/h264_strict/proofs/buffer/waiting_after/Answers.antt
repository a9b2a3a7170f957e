use Rattle.std.proofs.Common.{rules, arith}
use Rattle.h264_strict.proofs.BufferWaits.{waits-first}
use Rattle.h264_strict.proofs.buffer.waiting_after.Goals as goal

pub returns : goal.returns
returns c = waits-first c.args.waiting c.rotate_right.new.self c.args.unit 256 (search rules) (omega arith) c.rotate_right.ensures.after
