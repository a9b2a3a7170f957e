use Rattle.std.proofs.Common.{eq-eqb, refl}
use Rattle.std.proofs.lemmas.Result.{err_from_is_err_and}
use Rattle.h264_base.proofs.Steps.{bind, stop, done}
use Rattle.h264_cavlc.specs.Token.{trailing_one}
use Rattle.h264_cavlc.proofs.Sizes.{unequal}
use Rattle.h264_cavlc.proofs.token.read_any_one.Goals as goal

pub returns-in_err-sign : goal.returns-in_err-sign
unfolding trailing_one
returns-in_err-sign g c = let p = err_from_is_err_and c.from_residual.result c.from_residual.ensures.1 in rw (p.1, p.2) (stop _ c.in_err-sign.ensures.meets)

pub returns-then-sign-eq0 : goal.returns-then-sign-eq0
unfolding trailing_one
returns-then-sign-eq0 g c = let e = eq-eqb c.in_ok-sign.sign.value 0 c.if-sign-eq0.true in bind _ c.in_ok-sign.ensures.meets (done _ _ _ _ _ _ _ (rw e refl))

pub returns-else-sign-eq0 : goal.returns-else-sign-eq0
unfolding trailing_one
returns-else-sign-eq0 g c = let e = unequal c.in_ok-sign.sign.value 0 c.if-sign-eq0.false in bind _ c.in_ok-sign.ensures.meets (done _ _ _ _ _ _ _ (rw e refl))
