use Rattle.std.proofs.Common.{refl}
use Rattle.h264_base.proofs.Steps.{bind, stop, done}
use Rattle.h264_sps.proofs.Regroup.{flags-by_values}
use Rattle.h264_sps.proofs.Ways.{passed-on, as-parts}
use Rattle.h264_sps.proofs.read.read_flags.Goals as goal

pub returns-in_err-set0 : goal.returns-in_err-set0
returns-in_err-set0 g c = passed-on _ c.from_residual.ensures.1 (as-parts flags-by_values (stop _ c.in_err-set0.ensures))

pub returns : goal.returns
returns g c = as-parts flags-by_values (bind _ c.in_ok-set0.ensures (done _ _ _ _ _ _ _ refl))
