use Rattle.std.proofs.Common.{eq-eqb, refl}
use Rattle.std.proofs.lemmas.Result.{err_from_is_err_and}
use Rattle.h264_base.proofs.Steps.{bind, stop, done}
use Rattle.h264_cavlc.specs.Block.{residual_block}
use Rattle.h264_cavlc.proofs.Sizes.{unequal}
use Rattle.h264_cavlc.proofs.Handed.{refused-as, given-as}
use Rattle.h264_cavlc.proofs.Counts.{count-none}
use Rattle.h264_cavlc.proofs.residual.read_block.Goals as goal

pub returns-in_err-token-clause-meets : goal.returns-in_err-token-clause-meets
unfolding residual_block
returns-in_err-token-clause-meets g c = let p = err_from_is_err_and c.from_residual.result c.from_residual.ensures.1 in
    rw (p.1, p.2) (stop _ c.in_err-token.ensures.meets)

pub returns-then-token-eq0-clause-meets : goal.returns-then-token-eq0-clause-meets
unfolding residual_block
returns-then-token-eq0-clause-meets g c = let e = eq-eqb c.in_ok-token.token.total 0 c.if-token-eq0.true in
    bind _ c.in_ok-token.ensures.meets (rw e (done _ _ _ _ _ _ _ refl))

pub returns-in_err-read_coefficients-clause-meets : goal.returns-in_err-read_coefficients-clause-meets
unfolding residual_block
returns-in_err-read_coefficients-clause-meets g c =
    let p = err_from_is_err_and c.from_residual-in_err-read_coefficients.result c.from_residual-in_err-read_coefficients.ensures.1 in
    let e = unequal c.in_ok-token.token.total 0 c.if-token-eq0.false in
    rw (p.1, p.2) (bind _ c.in_ok-token.ensures.meets (rw e (refused-as c.in_err-read_coefficients.ensures.meets)))

pub returns-clause-meets : goal.returns-clause-meets
unfolding residual_block
returns-clause-meets g c =
    let e = unequal c.in_ok-token.token.total 0 c.if-token-eq0.false in
    bind _ c.in_ok-token.ensures.meets (rw e (given-as c.in_ok-read_coefficients.ensures.meets refl))

pub returns-then-token-eq0-clause-nonzero : goal.returns-then-token-eq0-clause-nonzero
returns-then-token-eq0-clause-nonzero g c = count-none g.row.N
