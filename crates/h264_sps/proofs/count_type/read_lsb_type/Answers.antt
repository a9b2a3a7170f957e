use Rattle.std.proofs.Common.{refl}
use Rattle.h264_base.proofs.Steps.{bind, stop, done}
use Rattle.h264_sps.specs.Counting.{lsb_type}
use Rattle.h264_sps.proofs.Ways.{passed-on}
use Rattle.h264_sps.proofs.count_type.read_lsb_type.Goals as goal

pub returns-in_err-log2_minus4 : goal.returns-in_err-log2_minus4
unfolding lsb_type
returns-in_err-log2_minus4 g c = passed-on _ c.from_residual.ensures.1 (stop _ c.in_err-log2_minus4.ensures.meets)

pub returns : goal.returns
unfolding lsb_type
returns g c = bind _ c.in_ok-log2_minus4.ensures.meets (done _ _ _ _ _ _ _ refl)
