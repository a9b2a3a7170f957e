use Rattle.h264_base.specs.Run.{run}
use Rattle.h264_base.proofs.OneAnswer.{run-says}
use Rattle.h264_base.proofs.laws.some_answer.Goals as goal

pub returns : goal.returns
returns g c = λ grammar body i. ((run grammar body i).elements, (run grammar body i).answer, run-says grammar body i)
