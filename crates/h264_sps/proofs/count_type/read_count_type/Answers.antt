use Rattle.std.proofs.Common.{rules, refl}
use Rattle.h264_base.proofs.Steps.{bind, stop, done}
use Rattle.h264_sps.specs.Counting.{counting, of_type}
use Rattle.h264_sps.proofs.Types.{of_type-other}
use Rattle.h264_sps.proofs.Ways.{passed-on}
use Rattle.h264_sps.proofs.count_type.read_count_type.Goals as goal

pub returns-in_err-kind : goal.returns-in_err-kind
unfolding counting
returns-in_err-kind g c = passed-on _ c.from_residual.ensures.1 (stop _ c.in_err-kind.ensures.meets)

pub returns-in-0 : goal.returns-in-0
unfolding counting of_type
returns-in-0 g c = bind _ c.in_ok-kind.ensures.meets (rw c.in-0.is c.read_lsb_type.ensures)

pub returns-in-1 : goal.returns-in-1
unfolding counting of_type
returns-in-1 g c = bind _ c.in_ok-kind.ensures.meets (rw c.in-1.is c.read_cycle_type.ensures)

pub returns-in_default : goal.returns-in_default
unfolding counting
returns-in_default g c = bind _ c.in_ok-kind.ensures.meets (rw (of_type-other c.in_ok-kind.kind (search rules) (search rules)) (done _ _ _ _ _ _ _ refl))
