use Rattle.h264_base.specs.Word.{Signed}
use Rattle.h264_strict.proofs.SeiParts.{passed-some, passed-none}
use Rattle.h264_strict.proofs.sei.content.offset.Goals as goal

pub returns-in-Ok-clause-read : goal.returns-in-Ok-clause-read
returns-in-Ok-clause-read c = passed-some Signed _ _ _ _ c.in-Ok.ensures.word

pub returns-in-Err-clause-read : goal.returns-in-Err-clause-read
returns-in-Err-clause-read c = passed-none Signed _ _ c.in-Err.ensures.none
