use Rattle.std.proofs.Common.{◌≡◌, ◌+◌, arith, refl}
use Rattle.std.proofs.lemmas.Result.{err_from_is_err_and}
use Rattle.h264_base.specs.declared.rule.Rule.TheVariants.{ResidualWord}
use Rattle.h264_base.specs.Word.{Fixed}
use Rattle.h264_base.proofs.Steps.{bind, stop, done}
use Rattle.h264_cavlc.specs.Level.{level_suffix}
use Rattle.h264_cavlc.proofs.Sizes.{suffix-some}
use Rattle.h264_cavlc.proofs.level.tell_level_suffix.Goals as goal

pub returns-then-size-eq0 : goal.returns-then-size-eq0
unfolding level_suffix
returns-then-size-eq0 g c word =
    let z = c.if-size-eq0.true in
    let s : c.args.suffix ≡ 0 = (let m = rw z at c.requires.small in omega arith) in
    let j : c.args.bits.now.at + c.args.before + c.args.size ≡ c.args.bits.now.at + c.args.before = omega arith in
    rw (j, z, s) (done _ _ _ _ _ _ _ refl)

pub returns-in_err-tell_ahead : goal.returns-in_err-tell_ahead
returns-in_err-tell_ahead g c word =
    let p = err_from_is_err_and c.from_residual.result c.from_residual.ensures.1 in
    rw (p.1, p.2, suffix-some c.args.size c.if-size-eq0.false) (stop _ (c.in_err-tell_ahead.ensures.meets ResidualWord (Fixed c.args.size) word))

pub returns : goal.returns
returns g c word =
    let v = c.in_ok-tell_ahead.ensures.value in
    rw (suffix-some c.args.size c.if-size-eq0.false) (bind _ (c.in_ok-tell_ahead.ensures.meets ResidualWord (Fixed c.args.size) word) (done _ _ _ _ _ _ _ v))
