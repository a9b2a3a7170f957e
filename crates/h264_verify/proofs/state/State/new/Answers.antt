use Rattle.std.proofs.Common.{refl}
use Rattle.h264_verify.proofs.state.State.new.Goals as goal

pub returns-clause-keeps : goal.returns-clause-keeps
returns-clause-keeps c = λ frames h. record { units = refl; sets = c.in-Ok.ensures; slices = c.no_slices.ensures; decoder = c.decoder_for.ensures frames h }
