use Rattle.std.proofs.Common.{refl}
use Rattle.std.proofs.lemmas.Result.{err_from_is_err_and}
use Rattle.h264_base.proofs.Steps.{bind, stop, done}
use Rattle.h264_header.specs.Parts.{header_from_kind}
use Rattle.h264_header.proofs.read.header_from_kind.Goals as goal

pub returns-in_err-read_slice_kind : goal.returns-in_err-read_slice_kind
unfolding header_from_kind
returns-in_err-read_slice_kind g c = let p = err_from_is_err_and c.from_residual.result c.from_residual.ensures.1 in
    rw (p.1, p.2) (stop _ c.in_err-read_slice_kind.ensures)

pub returns-in_err-read_marking : goal.returns-in_err-read_marking
unfolding header_from_kind
returns-in_err-read_marking g c = let p = err_from_is_err_and c.from_residual-in_err-read_marking.result c.from_residual-in_err-read_marking.ensures.1 in
    rw (p.1, p.2) (bind _ c.in_ok-read_slice_kind.ensures (stop _ c.in_err-read_marking.ensures))

pub returns-in_err-header : goal.returns-in_err-header
unfolding header_from_kind
returns-in_err-header g c = let p = err_from_is_err_and c.from_residual-in_err-header.result c.from_residual-in_err-header.ensures.1 in
    rw (p.1, p.2) (bind _ c.in_ok-read_slice_kind.ensures (bind _ c.in_ok-read_marking.ensures (stop _ c.in_err-header.ensures.meets)))

pub returns-in_err-header-2 : goal.returns-in_err-header-2
unfolding header_from_kind
returns-in_err-header-2 g c = let p = err_from_is_err_and c.from_residual-in_err-header-2.result c.from_residual-in_err-header-2.ensures.1 in
    rw (p.1, p.2) (bind _ c.in_ok-read_slice_kind.ensures
    (bind _ c.in_ok-read_marking.ensures (bind _ c.in_ok-header.ensures.meets (stop _ c.in_err-header-2.ensures))))

pub returns : goal.returns
unfolding header_from_kind
returns g c = bind _ c.in_ok-read_slice_kind.ensures
    (bind _ c.in_ok-read_marking.ensures (bind _ c.in_ok-header.ensures.meets (bind _ c.in_ok-header-2.ensures (done _ _ _ _ _ _ _ refl))))
