use Rattle.h264_base.proofs.OneAnswer.{says-one}
use Rattle.h264_base.proofs.laws.one_answer.Goals as goal

pub returns : goal.returns
returns g c = λ grammar body i es fs a b s t. says-one grammar body i es fs a b s t
