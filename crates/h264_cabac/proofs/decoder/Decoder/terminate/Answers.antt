use Rattle.h264_cabac.proofs.Given.{terminate-given}
use Rattle.h264_cabac.proofs.decoder.Decoder.terminate.Goals as goal

pub returns-clause-step : goal.returns-clause-step
returns-clause-step c = rw (← c.self.view_is) (terminate-given (record { engine = c.self.inside.engine; contexts = _ }) _ _ c.terminate.ensures.step)
