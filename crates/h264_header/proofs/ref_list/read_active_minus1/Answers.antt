use Rattle.std.proofs.Common.{refl}
use Rattle.std.proofs.lemmas.Result.{err_from_is_err_and}
use Rattle.h264_base.proofs.Steps.{bind, stop, done, checked}
use Rattle.h264_header.specs.RefList.{minus1_of, num_ref_idx_l0_active_minus1}
use Rattle.h264_header.proofs.ref_list.read_active_minus1.Goals as goal
use Rattle.h264_base.proofs.Plain.{digit-is}

pub returns-in_err-own-clause-meets : goal.returns-in_err-own-clause-meets
unfolding num_ref_idx_l0_active_minus1
returns-in_err-own-clause-meets g c = let p = err_from_is_err_and c.from_residual.result c.from_residual.ensures.1 in
    rw (p.1, p.2) (stop _ c.in_err-own.ensures.meets)

pub returns-then-own-clause-meets : goal.returns-then-own-clause-meets
unfolding num_ref_idx_l0_active_minus1 minus1_of
returns-then-own-clause-meets g c = bind _ c.in_ok-own.ensures.meets (rw (digit-is c.in_ok-own.own.value, c.if-own.true) c.ue_up_to.ensures.meets)

pub returns-in_err-check-clause-meets : goal.returns-in_err-check-clause-meets
unfolding num_ref_idx_l0_active_minus1 minus1_of
returns-in_err-check-clause-meets g c = let p = err_from_is_err_and c.from_residual-in_err-check.result c.from_residual-in_err-check.ensures.1 in
    rw (p.1, p.2) (bind _ c.in_ok-own.ensures.meets (rw (digit-is c.in_ok-own.own.value, c.if-own.false) (stop _ (checked _ _ _ _ c.in_err-check.ensures))))

pub returns-clause-meets : goal.returns-clause-meets
unfolding num_ref_idx_l0_active_minus1 minus1_of
returns-clause-meets g c = bind _ c.in_ok-own.ensures.meets
    (rw (digit-is c.in_ok-own.own.value, c.if-own.false) (bind _ (checked _ _ _ _ c.in_ok-check.ensures) (done _ _ _ _ _ _ _ refl)))
