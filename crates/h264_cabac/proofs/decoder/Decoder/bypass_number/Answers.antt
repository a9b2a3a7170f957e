use Rattle.h264_cabac.proofs.Given.{number-given}
use Rattle.h264_cabac.proofs.decoder.Decoder.bypass_number.Goals as goal

pub returns-clause-value : goal.returns-clause-value
returns-clause-value c =
    rw (← c.self.view_is) (number-given c.args.n (record { engine = c.self.inside.engine; contexts = _ }) _ _ c.bypass_number.ensures.step)
