use Rattle.h264_verify.proofs.laws.OneVerdict.{one-whole, one-stop}
use Rattle.h264_verify.proofs.laws.one_derivation.Goals as goal

pub returns : goal.returns
returns c = record {
  whole = λ extent bytes told others summary other h k. one-whole extent bytes told others summary other h k;
  stop = λ extent bytes told others stop other h k. one-stop extent bytes told others stop other h k;
}
