use Rattle.h264_verify.proofs.laws.OneVerdict.{one-verdict}
use Rattle.h264_verify.proofs.laws.one_verdict.Goals as goal

pub returns : goal.returns
returns c = λ extent bytes calls others one other a b. one-verdict extent bytes calls others one other a b
