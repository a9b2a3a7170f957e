use Rattle.std.proofs.lemmas.Result.{err_from_is_err_and}
use Rattle.h264_cabac.proofs.Runs.{gives-on, mvd-none, mvd-then}
use Rattle.h264_cabac.proofs.elements.read_mvd_from.Goals as goal

pub returns-in_err-size : goal.returns-in_err-size
returns-in_err-size c =
    let p = err_from_is_err_and c.from_residual.result c.from_residual.ensures.1 in
    rw p.1 (mvd-none c.args.first c.args.increment _ c.in_err-size.ensures.value)

pub returns : goal.returns
returns c = gives-on _ _ _ _ _ _ (mvd-then c.args.first c.args.increment _ _ _ c.in_ok-size.ensures.value) c.read_sign.ensures
