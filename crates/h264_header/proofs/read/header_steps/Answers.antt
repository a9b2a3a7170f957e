use Rattle.std.proofs.lemmas.Result.{err_from_is_err_and}
use Rattle.h264_base.proofs.Steps.{bind, stop}
use Rattle.h264_header.specs.Header.{header}
use Rattle.h264_header.specs.Parts.{header_from_frame_num, header_from_kind}
use Rattle.h264_header.proofs.read.header_steps.Goals as goal

pub returns-in_err-header : goal.returns-in_err-header
unfolding header header_from_frame_num header_from_kind
returns-in_err-header g c = let p = err_from_is_err_and c.from_residual.result c.from_residual.ensures.1 in rw (p.1, p.2) (stop _ c.in_err-header.ensures.meets)

pub returns-in_err-stated : goal.returns-in_err-stated
unfolding header header_from_frame_num header_from_kind
returns-in_err-stated g c = let p = err_from_is_err_and c.from_residual-in_err-stated.result c.from_residual-in_err-stated.ensures.1 in
    rw (p.1, p.2) (bind _ c.in_ok-header.ensures.meets (stop _ c.in_err-stated.ensures))

pub returns-in_err-named : goal.returns-in_err-named
unfolding header header_from_frame_num header_from_kind
returns-in_err-named g c = let p = err_from_is_err_and c.from_residual-in_err-named.result c.from_residual-in_err-named.ensures.1 in
    rw (p.1, p.2) (bind _ c.in_ok-header.ensures.meets (bind _ c.in_ok-stated.ensures (stop _ c.in_err-named.ensures.meets)))

pub returns : goal.returns
unfolding header header_from_frame_num header_from_kind
returns g c = bind _ c.in_ok-header.ensures.meets (bind _ c.in_ok-stated.ensures (bind _ c.in_ok-named.ensures.meets c.header_from_frame_num.ensures))
