use Rattle.h264_verify.proofs.laws.DecodablePictures.{legal-predicted, whole-decodable}
use Rattle.h264_verify.proofs.laws.predictions_are_held.Goals as goal

pub returns : goal.returns
returns c = record {
  whole = λ target bytes told summary h later p ps e. (whole-decodable target bytes told summary h later p ps e).predicted;
  legal = λ target before told l later p ps e. legal-predicted target before told l later p ps e;
}
