use Rattle.std.proofs.Common.{sym, arith}
use Rattle.h264_sps.proofs.Limits.{limits-none}
use Rattle.h264_sps.proofs.buffer.limits_of.Goals as goal

pub returns-then-sps-gt255 : goal.returns-then-sps-gt255
returns-then-sps-gt255 c = sym (limits-none _ _ (let t = c.if-sps-gt255.true in omega arith))
