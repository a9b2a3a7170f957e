use Rattle.h264_verify.proofs.samples.FamiliesByPurpose.{all-some, family-is}
use Rattle.h264_verify.proofs.decoder.Decoder.new.Goals as goal

pub returns : goal.returns
returns c = λ frames h. record {
  format = tt;
  output = record {
    buffer = c.new-2.ensures.keeps;
    made = family-is frames _ _ c.new.ensures.purpose h;
    frames_are = all-some _ frames (λ f. c.new-2.ensures.frames f _);
    ordered = c.new-2.ensures.ordered 0;
    ready = c.new-2.ensures.ready _;
    format = tt;
  };
  picture = record { released = c.new.ensures.released; sized = tt };
}
