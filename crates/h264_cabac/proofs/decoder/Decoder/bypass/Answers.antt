use Rattle.h264_cabac.proofs.Given.{bypass-given}
use Rattle.h264_cabac.proofs.decoder.Decoder.bypass.Goals as goal

pub returns-clause-step : goal.returns-clause-step
returns-clause-step c = rw (← c.self.view_is) (bypass-given (record { engine = c.self.inside.engine; contexts = _ }) _ _ c.bypass.ensures.step)
