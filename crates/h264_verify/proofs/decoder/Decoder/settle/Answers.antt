use Rattle.std.proofs.Common.{◌∙◌}
use Rattle.h264_verify.proofs.decoder.Decoder.settle.Goals as goal

pub returns-then-picture-clause-room : goal.returns-then-picture-clause-room
returns-then-picture-clause-room c = λ f
    r. record { serves = c.release.ensures.serves _ _ r.serves; size = c.release.ensures.size _ _ r.size; places = c.release.ensures.places ∙ r.places }
