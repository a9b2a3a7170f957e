use Rattle.std.proofs.Common.{refl}
use Rattle.std.proofs.lemmas.Result.{err_from_is_err_and}
use Rattle.h264_base.proofs.Steps.{bind, stop, done}
use Rattle.std.proofs.Common.{rules}
use Rattle.std.proofs.lemmas.Int.{to_z-of_z}
use Rattle.std.specs.Int.{w32}
use mir.Val.{SFits}
use Rattle.h264_pps.specs.Pps.{pps}
use Rattle.h264_pps.proofs.pps_steps.Goals as goal

pub returns-in_err-id-clause-meets : goal.returns-in_err-id-clause-meets
unfolding pps
returns-in_err-id-clause-meets g c = let p = err_from_is_err_and c.from_residual.result c.from_residual.ensures.1 in
    rw (p.1, p.2) (stop _ c.in_err-id.ensures.meets)

pub returns-in_err-sps-clause-meets : goal.returns-in_err-sps-clause-meets
unfolding pps
returns-in_err-sps-clause-meets g c = let p = err_from_is_err_and c.from_residual-in_err-sps.result c.from_residual-in_err-sps.ensures.1 in
    rw (p.1, p.2) (bind _ c.in_ok-id.ensures.meets (stop _ c.in_err-sps.ensures.meets))

pub returns-in_err-u_must_be-clause-meets : goal.returns-in_err-u_must_be-clause-meets
unfolding pps
returns-in_err-u_must_be-clause-meets g c = let p = err_from_is_err_and c.from_residual-in_err-u_must_be.result c.from_residual-in_err-u_must_be.ensures.1 in
    rw (p.1, p.2) (bind _ c.in_ok-id.ensures.meets (bind _ c.in_ok-sps.ensures.meets (stop _ c.in_err-u_must_be.ensures)))

pub returns-in_err-bottom-clause-meets : goal.returns-in_err-bottom-clause-meets
unfolding pps
returns-in_err-bottom-clause-meets g c = let p = err_from_is_err_and c.from_residual-in_err-bottom.result c.from_residual-in_err-bottom.ensures.1 in
    rw (p.1, p.2) (bind _ c.in_ok-id.ensures.meets (bind _ c.in_ok-sps.ensures.meets (bind _ c.in_ok-u_must_be.ensures (stop _ c.in_err-bottom.ensures))))

pub returns-in_err-ue_must_be_0-clause-meets : goal.returns-in_err-ue_must_be_0-clause-meets
unfolding pps
returns-in_err-ue_must_be_0-clause-meets g c = let p =
    err_from_is_err_and c.from_residual-in_err-ue_must_be_0.result c.from_residual-in_err-ue_must_be_0.ensures.1 in
    rw (p.1, p.2) (bind _ c.in_ok-id.ensures.meets
    (bind _ c.in_ok-sps.ensures.meets (bind _ c.in_ok-u_must_be.ensures (bind _ c.in_ok-bottom.ensures (stop _ c.in_err-ue_must_be_0.ensures)))))

pub returns-in_err-l0-clause-meets : goal.returns-in_err-l0-clause-meets
unfolding pps
returns-in_err-l0-clause-meets g c = let p = err_from_is_err_and c.from_residual-in_err-l0.result c.from_residual-in_err-l0.ensures.1 in
    rw (p.1, p.2) (bind _ c.in_ok-id.ensures.meets
    (bind _ c.in_ok-sps.ensures.meets (bind _ c.in_ok-u_must_be.ensures
    (bind _ c.in_ok-bottom.ensures (bind _ c.in_ok-ue_must_be_0.ensures (stop _ c.in_err-l0.ensures.meets))))))

pub returns-in_err-l1-clause-meets : goal.returns-in_err-l1-clause-meets
unfolding pps
returns-in_err-l1-clause-meets g c = let p = err_from_is_err_and c.from_residual-in_err-l1.result c.from_residual-in_err-l1.ensures.1 in
    rw (p.1, p.2) (bind _ c.in_ok-id.ensures.meets
    (bind _ c.in_ok-sps.ensures.meets (bind _ c.in_ok-u_must_be.ensures
    (bind _ c.in_ok-bottom.ensures (bind _ c.in_ok-ue_must_be_0.ensures (bind _ c.in_ok-l0.ensures.meets (stop _ c.in_err-l1.ensures.meets)))))))

pub returns-in_err-weighted-clause-meets : goal.returns-in_err-weighted-clause-meets
unfolding pps
returns-in_err-weighted-clause-meets g c = let p = err_from_is_err_and c.from_residual-in_err-weighted.result c.from_residual-in_err-weighted.ensures.1 in
    rw (p.1, p.2) (bind _ c.in_ok-id.ensures.meets
    (bind _ c.in_ok-sps.ensures.meets (bind _ c.in_ok-u_must_be.ensures
    (bind _ c.in_ok-bottom.ensures (bind _ c.in_ok-ue_must_be_0.ensures
    (bind _ c.in_ok-l0.ensures.meets (bind _ c.in_ok-l1.ensures.meets (stop _ c.in_err-weighted.ensures))))))))

pub returns-in_err-bipred-clause-meets : goal.returns-in_err-bipred-clause-meets
unfolding pps
returns-in_err-bipred-clause-meets g c = let p = err_from_is_err_and c.from_residual-in_err-bipred.result c.from_residual-in_err-bipred.ensures.1 in
    rw (p.1, p.2) (bind _ c.in_ok-id.ensures.meets
    (bind _ c.in_ok-sps.ensures.meets (bind _ c.in_ok-u_must_be.ensures
    (bind _ c.in_ok-bottom.ensures (bind _ c.in_ok-ue_must_be_0.ensures
    (bind _ c.in_ok-l0.ensures.meets (bind _ c.in_ok-l1.ensures.meets (bind _ c.in_ok-weighted.ensures (stop _ c.in_err-bipred.ensures)))))))))

pub returns-in_err-qp-clause-meets : goal.returns-in_err-qp-clause-meets
unfolding pps
returns-in_err-qp-clause-meets g c = let p = err_from_is_err_and c.from_residual-in_err-qp.result c.from_residual-in_err-qp.ensures.1 in
    rw (p.1, p.2) (bind _ c.in_ok-id.ensures.meets
    (bind _ c.in_ok-sps.ensures.meets (bind _ c.in_ok-u_must_be.ensures
    (bind _ c.in_ok-bottom.ensures (bind _ c.in_ok-ue_must_be_0.ensures
    (bind _ c.in_ok-l0.ensures.meets (bind _ c.in_ok-l1.ensures.meets
    (bind _ c.in_ok-weighted.ensures (bind _ c.in_ok-bipred.ensures (stop _ c.in_err-qp.ensures.meets))))))))))

pub returns-in_err-qs-clause-meets : goal.returns-in_err-qs-clause-meets
unfolding pps
returns-in_err-qs-clause-meets g c = let p = err_from_is_err_and c.from_residual-in_err-qs.result c.from_residual-in_err-qs.ensures.1 in
    rw (p.1, p.2) (bind _ c.in_ok-id.ensures.meets
    (bind _ c.in_ok-sps.ensures.meets (bind _ c.in_ok-u_must_be.ensures
    (bind _ c.in_ok-bottom.ensures (bind _ c.in_ok-ue_must_be_0.ensures
    (bind _ c.in_ok-l0.ensures.meets (bind _ c.in_ok-l1.ensures.meets
    (bind _ c.in_ok-weighted.ensures (bind _ c.in_ok-bipred.ensures (bind _ c.in_ok-qp.ensures.meets (stop _ c.in_err-qs.ensures.meets)))))))))))

pub returns-in_err-chroma-clause-meets : goal.returns-in_err-chroma-clause-meets
unfolding pps
returns-in_err-chroma-clause-meets g c = let p = err_from_is_err_and c.from_residual-in_err-chroma.result c.from_residual-in_err-chroma.ensures.1 in
    rw (p.1, p.2) (bind _ c.in_ok-id.ensures.meets
    (bind _ c.in_ok-sps.ensures.meets (bind _ c.in_ok-u_must_be.ensures
    (bind _ c.in_ok-bottom.ensures (bind _ c.in_ok-ue_must_be_0.ensures
    (bind _ c.in_ok-l0.ensures.meets (bind _ c.in_ok-l1.ensures.meets
    (bind _ c.in_ok-weighted.ensures (bind _ c.in_ok-bipred.ensures
    (bind _ c.in_ok-qp.ensures.meets (bind _ c.in_ok-qs.ensures.meets (stop _ c.in_err-chroma.ensures.meets))))))))))))

pub returns-in_err-deblocking-clause-meets : goal.returns-in_err-deblocking-clause-meets
unfolding pps
returns-in_err-deblocking-clause-meets g c = let p =
    err_from_is_err_and c.from_residual-in_err-deblocking.result c.from_residual-in_err-deblocking.ensures.1 in
    rw (p.1, p.2) (bind _ c.in_ok-id.ensures.meets
    (bind _ c.in_ok-sps.ensures.meets (bind _ c.in_ok-u_must_be.ensures
    (bind _ c.in_ok-bottom.ensures (bind _ c.in_ok-ue_must_be_0.ensures
    (bind _ c.in_ok-l0.ensures.meets (bind _ c.in_ok-l1.ensures.meets
    (bind _ c.in_ok-weighted.ensures (bind _ c.in_ok-bipred.ensures
    (bind _ c.in_ok-qp.ensures.meets (bind _ c.in_ok-qs.ensures.meets (bind _ c.in_ok-chroma.ensures.meets (stop _ c.in_err-deblocking.ensures)))))))))))))

pub returns-in_err-intra-clause-meets : goal.returns-in_err-intra-clause-meets
unfolding pps
returns-in_err-intra-clause-meets g c = let p = err_from_is_err_and c.from_residual-in_err-intra.result c.from_residual-in_err-intra.ensures.1 in
    rw (p.1, p.2) (bind _ c.in_ok-id.ensures.meets
    (bind _ c.in_ok-sps.ensures.meets (bind _ c.in_ok-u_must_be.ensures
    (bind _ c.in_ok-bottom.ensures (bind _ c.in_ok-ue_must_be_0.ensures
    (bind _ c.in_ok-l0.ensures.meets (bind _ c.in_ok-l1.ensures.meets
    (bind _ c.in_ok-weighted.ensures (bind _ c.in_ok-bipred.ensures
    (bind _ c.in_ok-qp.ensures.meets (bind _ c.in_ok-qs.ensures.meets
    (bind _ c.in_ok-chroma.ensures.meets (bind _ c.in_ok-deblocking.ensures (stop _ c.in_err-intra.ensures))))))))))))))

pub returns-in_err-u_must_be-2-clause-meets : goal.returns-in_err-u_must_be-2-clause-meets
unfolding pps
returns-in_err-u_must_be-2-clause-meets g c = let p =
    err_from_is_err_and c.from_residual-in_err-u_must_be-2.result c.from_residual-in_err-u_must_be-2.ensures.1 in
    rw (p.1, p.2) (bind _ c.in_ok-id.ensures.meets
    (bind _ c.in_ok-sps.ensures.meets (bind _ c.in_ok-u_must_be.ensures
    (bind _ c.in_ok-bottom.ensures (bind _ c.in_ok-ue_must_be_0.ensures
    (bind _ c.in_ok-l0.ensures.meets (bind _ c.in_ok-l1.ensures.meets
    (bind _ c.in_ok-weighted.ensures (bind _ c.in_ok-bipred.ensures
    (bind _ c.in_ok-qp.ensures.meets (bind _ c.in_ok-qs.ensures.meets
    (bind _ c.in_ok-chroma.ensures.meets (bind _ c.in_ok-deblocking.ensures (bind _ c.in_ok-intra.ensures (stop _ c.in_err-u_must_be-2.ensures)))))))))))))))

pub returns-in_err-read_trailing-clause-meets : goal.returns-in_err-read_trailing-clause-meets
unfolding pps
returns-in_err-read_trailing-clause-meets g c = let p =
    err_from_is_err_and c.from_residual-in_err-read_trailing.result c.from_residual-in_err-read_trailing.ensures.1 in
    rw (p.1, p.2) (bind _ c.in_ok-id.ensures.meets
    (bind _ c.in_ok-sps.ensures.meets (bind _ c.in_ok-u_must_be.ensures
    (bind _ c.in_ok-bottom.ensures (bind _ c.in_ok-ue_must_be_0.ensures
    (bind _ c.in_ok-l0.ensures.meets (bind _ c.in_ok-l1.ensures.meets
    (bind _ c.in_ok-weighted.ensures (bind _ c.in_ok-bipred.ensures
    (bind _ c.in_ok-qp.ensures.meets (bind _ c.in_ok-qs.ensures.meets
    (bind _ c.in_ok-chroma.ensures.meets (bind _ c.in_ok-deblocking.ensures
    (bind _ c.in_ok-intra.ensures (bind _ c.in_ok-u_must_be-2.ensures (stop _ c.in_err-read_trailing.ensures))))))))))))))))

pub returns-clause-meets : goal.returns-clause-meets
unfolding pps
returns-clause-meets g c = let fits0 : SFits w32 c.in_ok-qp.qp = search rules in let fits1 : SFits w32 c.in_ok-qs.qs = search rules in
    let fits2 : SFits w32 c.in_ok-chroma.chroma = search rules in
    bind _ c.in_ok-id.ensures.meets (bind _ c.in_ok-sps.ensures.meets
    (bind _ c.in_ok-u_must_be.ensures (bind _ c.in_ok-bottom.ensures
    (bind _ c.in_ok-ue_must_be_0.ensures (bind _ c.in_ok-l0.ensures.meets
    (bind _ c.in_ok-l1.ensures.meets (bind _ c.in_ok-weighted.ensures
    (bind _ c.in_ok-bipred.ensures (bind _ c.in_ok-qp.ensures.meets
    (bind _ c.in_ok-qs.ensures.meets (bind _ c.in_ok-chroma.ensures.meets
    (bind _ c.in_ok-deblocking.ensures (bind _ c.in_ok-intra.ensures
    (bind _ c.in_ok-u_must_be-2.ensures (bind _ c.in_ok-read_trailing.ensures (done _ _ _ _ _ _ _ (simp to_z-of_z refl)))))))))))))))))
