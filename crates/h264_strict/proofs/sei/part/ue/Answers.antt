use Rattle.h264_base.specs.Word.{Unsigned}
use Rattle.h264_strict.proofs.SeiParts.{element-some, element-none}
use Rattle.h264_strict.proofs.sei.part.ue.Goals as goal

pub returns-in-Ok-clause-read : goal.returns-in-Ok-clause-read
returns-in-Ok-clause-read c = element-some Unsigned _ _ _ _ c.in-Ok.ensures.word

pub returns-in-Err-clause-read : goal.returns-in-Err-clause-read
returns-in-Err-clause-read c = element-none Unsigned _ _ c.in-Err.ensures.none
