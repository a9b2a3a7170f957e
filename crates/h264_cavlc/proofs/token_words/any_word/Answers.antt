use Rattle.std.proofs.Common.{arith}
use Rattle.h264_cavlc.proofs.ShortWords.{token-other-size}
use Rattle.h264_cavlc.proofs.token_words.any_word.Goals as goal

pub returns-then-length-ne0 : goal.returns-then-length-ne0
returns-then-length-ne0 c = rw (token-other-size c.args.size c.args.nc c.if-size-ne4.true) (c.short_word-length.ensures (omega arith))
