use Rattle.std.proofs.Common.{refl}
use Rattle.std.proofs.lemmas.Result.{err_from_is_err_and}
use Rattle.h264_base.proofs.OneAnswer.{answers}
use Rattle.h264_cavlc.proofs.Handed.{refused-as, given-as}
use Rattle.h264_cavlc.proofs.residual.block.Goals as goal

pub returns-in_err-total-clause-meets : goal.returns-in_err-total-clause-meets
returns-in_err-total-clause-meets g c = let p = err_from_is_err_and c.from_residual.result c.from_residual.ensures.1 in
    rw (p.1, p.2) (refused-as c.in_err-total.ensures.meets)

pub returns-in_err-total-clause-answers : goal.returns-in_err-total-clause-answers
returns-in_err-total-clause-answers g c = answers (returns-in_err-total-clause-meets g c)

pub returns-clause-meets : goal.returns-clause-meets
returns-clause-meets g c = given-as c.in_ok-total.ensures.meets refl

pub returns-clause-answers : goal.returns-clause-answers
returns-clause-answers g c = answers (returns-clause-meets g c)
