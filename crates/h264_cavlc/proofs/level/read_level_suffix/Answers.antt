use Rattle.std.proofs.Common.{refl}
use Rattle.std.proofs.lemmas.Result.{err_from_is_err_and}
use Rattle.h264_base.proofs.Steps.{bind, stop, done}
use Rattle.h264_cavlc.specs.Level.{level_suffix}
use Rattle.h264_cavlc.proofs.Sizes.{suffix-some, suffix-small}
use Rattle.h264_cavlc.proofs.level.read_level_suffix.Goals as goal

pub returns-then-size-eq0-clause-meets : goal.returns-then-size-eq0-clause-meets
unfolding level_suffix
returns-then-size-eq0-clause-meets g c = rw c.if-size-eq0.true (done _ _ _ _ _ _ _ refl)

pub returns-in_err-suffix-clause-meets : goal.returns-in_err-suffix-clause-meets
returns-in_err-suffix-clause-meets g c = let p = err_from_is_err_and c.from_residual.result c.from_residual.ensures.1 in
    rw (p.1, p.2, suffix-some c.args.size c.if-size-eq0.false) (stop _ c.in_err-suffix.ensures.meets)

pub returns-clause-meets : goal.returns-clause-meets
returns-clause-meets g c = rw (suffix-some c.args.size c.if-size-eq0.false) (bind _ c.in_ok-suffix.ensures.meets (done _ _ _ _ _ _ _ refl))

pub returns-clause-small : goal.returns-clause-small
returns-clause-small g c = suffix-small c.in_ok-suffix.suffix.value c.args.size c.in_ok-suffix.ensures.small c.requires.few
