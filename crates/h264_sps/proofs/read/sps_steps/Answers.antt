use Rattle.std.proofs.Common.{◌≡◌, ◌≤◌}
use Rattle.std.proofs.lemmas.Result.{IfOk-weaker}
use Rattle.h264_base.proofs.Steps.{bind, stop}
use Rattle.h264_sps.specs.declared.sps.Sps.{Sps}
use Rattle.h264_sps.specs.Sps.{sps}
use Rattle.h264_sps.specs.Parts.{sps_from_size}
use Rattle.h264_sps.proofs.Ways.{passed-on, still}
use Rattle.h264_sps.proofs.read.sps_steps.Goals as goal

pub returns-in_err-front-clause-meets : goal.returns-in_err-front-clause-meets
unfolding sps sps_from_size
returns-in_err-front-clause-meets g c = passed-on _ c.from_residual.ensures.1 (stop _ c.in_err-front.ensures)

pub returns-in_err-id-clause-meets : goal.returns-in_err-id-clause-meets
unfolding sps sps_from_size
returns-in_err-id-clause-meets g c = passed-on _ c.from_residual-in_err-id.ensures.1 (bind _ c.in_ok-front.ensures (stop _ c.in_err-id.ensures.meets))

pub returns-in_err-log2_minus4-clause-meets : goal.returns-in_err-log2_minus4-clause-meets
unfolding sps sps_from_size
returns-in_err-log2_minus4-clause-meets g c =
    passed-on _ c.from_residual-in_err-log2_minus4.ensures.1
    (bind _ c.in_ok-front.ensures (bind _ c.in_ok-id.ensures.meets (stop _ c.in_err-log2_minus4.ensures.meets)))

pub returns-in_err-count_type-clause-meets : goal.returns-in_err-count_type-clause-meets
unfolding sps sps_from_size
returns-in_err-count_type-clause-meets g c =
    passed-on _ c.from_residual-in_err-count_type.ensures.1
    (bind _ c.in_ok-front.ensures (bind _ c.in_ok-id.ensures.meets (bind _ c.in_ok-log2_minus4.ensures.meets (stop _ c.in_err-count_type.ensures))))

pub returns-in_err-refs-clause-meets : goal.returns-in_err-refs-clause-meets
unfolding sps sps_from_size
returns-in_err-refs-clause-meets g c = passed-on _ c.from_residual-in_err-refs.ensures.1
    (bind _ c.in_ok-front.ensures (bind _ c.in_ok-id.ensures.meets
    (bind _ c.in_ok-log2_minus4.ensures.meets (bind _ c.in_ok-count_type.ensures (stop _ c.in_err-refs.ensures.meets)))))

pub returns-in_err-gaps-clause-meets : goal.returns-in_err-gaps-clause-meets
unfolding sps sps_from_size
returns-in_err-gaps-clause-meets g c = passed-on _ c.from_residual-in_err-gaps.ensures.1
    (bind _ c.in_ok-front.ensures (bind _ c.in_ok-id.ensures.meets
    (bind _ c.in_ok-log2_minus4.ensures.meets (bind _ c.in_ok-count_type.ensures (bind _ c.in_ok-refs.ensures.meets (stop _ c.in_err-gaps.ensures))))))

pub returns-clause-meets : goal.returns-clause-meets
unfolding sps sps_from_size
returns-clause-meets g c = bind _ c.in_ok-front.ensures
    (bind _ c.in_ok-id.ensures.meets (bind _ c.in_ok-log2_minus4.ensures.meets
    (bind _ c.in_ok-count_type.ensures (bind _ c.in_ok-refs.ensures.meets (bind _ c.in_ok-gaps.ensures (c.sps_from_size.ensures.meets))))))

pub returns-clause-id : goal.returns-clause-id
returns-clause-id g c = IfOk-weaker _ (λ (s : Sps). s.seq_parameter_set_id ≡ c.in_ok-id.id) (λ (s : Sps). s.seq_parameter_set_id ≤ 31)
    (λ s e. rw e c.in_ok-id.ensures.within) c.sps_from_size.ensures.id

pub sps_from_size-requires : goal.sps_from_size-requires
sps_from_size-requires g c = still c.in_ok-gaps.ensures
    (still c.in_ok-refs.ensures.meets (still c.in_ok-count_type.ensures
    (still c.in_ok-log2_minus4.ensures.meets (still c.in_ok-id.ensures.meets (still c.in_ok-front.ensures c.requires)))))
