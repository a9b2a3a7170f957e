use Rattle.h264_base.specs.Word.{Fixed}
use Rattle.h264_strict.proofs.SeiParts.{element-some, element-none}
use Rattle.h264_strict.proofs.sei.part.u.Goals as goal

pub returns-in-Ok-clause-read : goal.returns-in-Ok-clause-read
returns-in-Ok-clause-read c = element-some (Fixed c.args.n) _ _ _ _ c.in-Ok.ensures.word

pub returns-in-Err-clause-read : goal.returns-in-Err-clause-read
returns-in-Err-clause-read c = element-none (Fixed c.args.n) _ _ c.in-Err.ensures.none
