use Rattle.std.proofs.Common.{refl}
use Rattle.std.proofs.lemmas.Result.{err_from_is_err_and}
use Rattle.h264_base.proofs.Steps.{bind, stop, done}
use Rattle.h264_header.specs.Marking.{idr_marking}
use Rattle.h264_header.proofs.marking.read_idr_marking.Goals as goal
use Rattle.h264_base.proofs.Plain.{digit-is}

pub returns-in_err-no_output : goal.returns-in_err-no_output
unfolding idr_marking
returns-in_err-no_output g c = let p = err_from_is_err_and c.from_residual.result c.from_residual.ensures.1 in
    rw (p.1, p.2) (stop _ c.in_err-no_output.ensures.meets)

pub returns-in_err-long_term : goal.returns-in_err-long_term
unfolding idr_marking
returns-in_err-long_term g c = let p = err_from_is_err_and c.from_residual-in_err-long_term.result c.from_residual-in_err-long_term.ensures.1 in
    rw (p.1, p.2) (bind _ c.in_ok-no_output.ensures.meets (stop _ c.in_err-long_term.ensures))

pub returns : goal.returns
unfolding idr_marking
returns g c = bind _ c.in_ok-no_output.ensures.meets
    (bind _ c.in_ok-long_term.ensures (done _ _ _ _ _ _ _ (rw (digit-is c.in_ok-no_output.no_output.value) refl)))
