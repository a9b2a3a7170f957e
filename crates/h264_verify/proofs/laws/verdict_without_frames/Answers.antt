use Rattle.h264_verify.proofs.laws.WithoutFrames.{frames-out}
use Rattle.h264_verify.proofs.laws.verdict_without_frames.Goals as goal

pub returns : goal.returns
returns c = record {
  verdict = λ target bytes told answer. (λ v. v, λ v. v);
  calls = frames-out;
}
