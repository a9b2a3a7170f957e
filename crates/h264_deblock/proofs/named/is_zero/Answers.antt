use Rattle.std.proofs.Common.{arith, rules}
use Rattle.h264_deblock.proofs.Numbers.{zero-word}
use Rattle.h264_deblock.proofs.named.is_zero.Goals as goal

pub returns : goal.returns
returns c t = zero-word c.args.word.now (omega arith) (search rules) (search rules)
