use Rattle.std.proofs.Common.{refl}
use Rattle.h264_base.proofs.Steps.{bind, stop, done}
use Rattle.h264_sps.proofs.VuiRegroup.{cpb-by_values}
use Rattle.h264_sps.proofs.Ways.{passed-on, as-parts}
use Rattle.h264_sps.proofs.hrd.read_cpb.Goals as goal

pub returns-in_err-bit_rate : goal.returns-in_err-bit_rate
returns-in_err-bit_rate g c = passed-on _ c.from_residual.ensures.1 (as-parts cpb-by_values (stop _ c.in_err-bit_rate.ensures))

pub returns-in_err-constant : goal.returns-in_err-constant
returns-in_err-constant g c = passed-on _ c.from_residual-in_err-constant.ensures.1
    (as-parts cpb-by_values (bind _ c.in_ok-bit_rate.ensures (stop _ c.in_err-constant.ensures)))

pub returns : goal.returns
returns g c = as-parts cpb-by_values (bind _ c.in_ok-bit_rate.ensures (bind _ c.in_ok-constant.ensures (done _ _ _ _ _ _ _ refl)))
