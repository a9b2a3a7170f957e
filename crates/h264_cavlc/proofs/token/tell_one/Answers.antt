use Rattle.std.proofs.Common.{◌≡◌, ◌+◌, arith, ap}
use Rattle.std.proofs.lemmas.Result.{err_from_is_err_and}
use Rattle.h264_base.specs.declared.rule.Rule.TheVariants.{ResidualWord}
use Rattle.h264_base.specs.Word.{Fixed}
use Rattle.h264_base.proofs.Steps.{bind, stop, done}
use Rattle.h264_cavlc.specs.Token.{one_of, trailing_one}
use Rattle.h264_cavlc.proofs.token.tell_one.Goals as goal

pub returns-in_err-tell_ahead-clause-meets : goal.returns-in_err-tell_ahead-clause-meets
unfolding trailing_one
returns-in_err-tell_ahead-clause-meets g c word =
    let p = err_from_is_err_and c.from_residual.result c.from_residual.ensures.1 in
    let end : c.args.bits.now.at + (c.args.k + 1) ≡ c.args.bits.now.at + c.args.k + 1 = omega arith in
    rw (p.1, p.2, end) (stop _ (c.in_err-tell_ahead.ensures.meets ResidualWord (Fixed 1) word))

pub returns-clause-meets : goal.returns-clause-meets
unfolding trailing_one
returns-clause-meets g c word =
    let end : c.args.bits.now.at + (c.args.k + 1) ≡ c.args.bits.now.at + c.args.k + 1 = omega arith in
    rw end (bind _ (c.in_ok-tell_ahead.ensures.meets ResidualWord (Fixed 1) word) (done _ _ _ _ _ _ _ (ap one_of c.in_ok-tell_ahead.ensures.value)))
