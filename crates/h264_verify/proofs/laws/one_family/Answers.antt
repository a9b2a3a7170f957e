use Rattle.h264_verify.proofs.laws.OneFamily.{one-family, legal-family}
use Rattle.h264_verify.proofs.laws.one_family.Goals as goal

pub returns : goal.returns
returns c = record {
  whole = λ target bytes told summary h frames others d e. one-family frames others target bytes told summary h d e;
  legal = λ target before told l frames others d e. legal-family frames others target before told l d e;
}
