use Rattle.h264_verify.proofs.laws.DecodablePictures.{legal-decodes, legal-ends, whole-decodable}
use Rattle.h264_verify.proofs.laws.WithinAtEnds.{told-ends}
use Rattle.h264_verify.proofs.laws.buffer_stays_within.Goals as goal

pub returns : goal.returns
returns c = record {
  whole = λ target bytes told summary h later p ps e. let d = whole-decodable target bytes told summary h later p ps e in (d.decodes, d.ends);
  decoded = λ target before told l later p ps e. legal-decodes target before told l later p ps e;
  ended = λ target before told l later p ps e. legal-ends target before told l later p ps e;
  told = λ target bytes told answer v first later p ps e. told-ends target bytes told answer v first later p ps e;
}
