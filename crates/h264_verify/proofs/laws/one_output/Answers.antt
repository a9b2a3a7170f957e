use Rattle.h264_verify.proofs.laws.OneOutput.{verdict-output, legal-output, front-output, fronts-output}
use Rattle.h264_verify.proofs.laws.one_output.Goals as goal

pub returns : goal.returns
returns c = record {
  verdict = λ target bytes told answer h frames others d e. verdict-output frames others target bytes told answer h d e;
  legal = λ target before told l frames others d e. legal-output frames others target before told l d e;
  front = λ target bytes told rest answer h frames others d e. front-output frames others target bytes told rest answer h d e;
  fronts = λ target bytes told rest other more answer another v w frames others d e. fronts-output target bytes told rest other more answer another v w frames
      others d e;
}
