use Rattle.std.proofs.Common.{refl}
use Rattle.h264_stream.proofs.Queued.{filled-passed}
use Rattle.h264_stream.proofs.filling.FillingElements.element.Goals as goal

pub returns-clause-ok : goal.returns-clause-ok
returns-clause-ok g c = record { told = λ before h. filled-passed before _ refl h }
