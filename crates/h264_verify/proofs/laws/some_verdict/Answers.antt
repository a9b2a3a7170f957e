use Rattle.h264_verify.proofs.laws.OneVerdict.{some-verdict}
use Rattle.h264_verify.proofs.laws.some_verdict.Goals as goal

pub returns : goal.returns
returns c = λ extent bytes. let v = some-verdict extent bytes in (v.calls, v.answer, v.verdict)
