use Rattle.std.proofs.lemmas.Result.{err_from_is_err_and}
use Rattle.h264_base.proofs.Steps.{bind, stop}
use Rattle.h264_header.specs.Parts.{header_from_frame_num}
use Rattle.h264_header.proofs.read.header_from_frame_num.Goals as goal

pub returns-in_err-header : goal.returns-in_err-header
unfolding header_from_frame_num
returns-in_err-header g c = let p = err_from_is_err_and c.from_residual.result c.from_residual.ensures.1 in rw (p.1, p.2) (stop _ c.in_err-header.ensures.meets)

pub returns-in_err-header-2 : goal.returns-in_err-header-2
unfolding header_from_frame_num
returns-in_err-header-2 g c = let p = err_from_is_err_and c.from_residual-in_err-header-2.result c.from_residual-in_err-header-2.ensures.1 in
    rw (p.1, p.2) (bind _ c.in_ok-header.ensures.meets (stop _ c.in_err-header-2.ensures))

pub returns-in_err-header-3 : goal.returns-in_err-header-3
unfolding header_from_frame_num
returns-in_err-header-3 g c = let p = err_from_is_err_and c.from_residual-in_err-header-3.result c.from_residual-in_err-header-3.ensures.1 in
    rw (p.1, p.2) (bind _ c.in_ok-header.ensures.meets (bind _ c.in_ok-header-2.ensures (stop _ c.in_err-header-3.ensures)))

pub returns : goal.returns
unfolding header_from_frame_num
returns g c = bind _ c.in_ok-header.ensures.meets (bind _ c.in_ok-header-2.ensures (bind _ c.in_ok-header-3.ensures c.header_from_kind.ensures))
