use Rattle.h264_verify.proofs.laws.DecodablePictures.{legal-among, whole-decodable}
use Rattle.h264_verify.proofs.laws.held_pictures_stand.Goals as goal

pub returns : goal.returns
returns c = record {
  whole = λ target bytes told summary h later p ps e. (whole-decodable target bytes told summary h later p ps e).held;
  legal = λ target before told l later p ps e. legal-among target before told l later p ps e;
}
