use Rattle.std.proofs.Common.{refl}
use Rattle.std.proofs.lemmas.Result.{err_from_is_err_and}
use Rattle.h264_base.proofs.Steps.{bind, stop, done}
use Rattle.h264_header.specs.Marking.{marking_mode}
use Rattle.h264_header.proofs.marking.read_adaptive.Goals as goal

pub returns-in_err-operations : goal.returns-in_err-operations
unfolding marking_mode
returns-in_err-operations g c = let p = err_from_is_err_and c.from_residual.result c.from_residual.ensures.1 in
    rw (p.1, p.2) (stop _ c.in_err-operations.ensures)

pub returns : goal.returns
unfolding marking_mode
returns g c = bind _ c.in_ok-operations.ensures (done _ _ _ _ _ _ _ refl)
