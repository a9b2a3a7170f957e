use Rattle.std.proofs.Common.{◌∙◌}
use Rattle.std.proofs.lemmas.Result.{err_from_is_err_and}
use Rattle.h264_cabac.proofs.Runs.{suffix-none, suffix-not, suffix-there}
use Rattle.h264_cabac.proofs.bins.read_golomb.Goals as goal

pub returns-in_err-prefix-clause-value : goal.returns-in_err-prefix-clause-value
returns-in_err-prefix-clause-value c =
    let p = err_from_is_err_and c.from_residual.result c.from_residual.ensures.1 in
    rw p.1 (suffix-none c.args.indices c.args.c_max c.args.first _ c.in_err-prefix.ensures.value)

pub returns-then-prefix-c_max-clause-value : goal.returns-then-prefix-c_max-clause-value
returns-then-prefix-c_max-clause-value c =
    suffix-not c.args.indices c.args.c_max c.args.first _ _ _ c.in_ok-prefix.ensures.value c.if-prefix-c_max.true

pub returns-in_err-size-clause-value : goal.returns-in_err-size-clause-value
returns-in_err-size-clause-value c =
    let p = err_from_is_err_and c.from_residual-in_err-size.result c.from_residual-in_err-size.ensures.1 in
    rw p.1 (suffix-there c.args.indices c.args.c_max c.args.first _ _ _ c.in_ok-prefix.ensures.value c.if-prefix-c_max.false ∙
    c.in_err-size.ensures.value)

pub returns-clause-value : goal.returns-clause-value
returns-clause-value c =
    suffix-there c.args.indices c.args.c_max c.args.first _ _ _ c.in_ok-prefix.ensures.value c.if-prefix-c_max.false ∙ c.in_ok-size.ensures.value
