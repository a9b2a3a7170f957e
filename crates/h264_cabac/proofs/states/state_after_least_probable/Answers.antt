use Rattle.std.proofs.Common.{refl, arith}
use Rattle.h264_cabac.specs.declared.states.TheConstants.{TRANS_IDX_LPS}
use Rattle.h264_cabac.proofs.Between.{are_between, between-at}
use Rattle.h264_cabac.proofs.states.state_after_least_probable.Goals as goal

pub returns-clause-small : goal.returns-clause-small
unfolding are_between
returns-clause-small c = (between-at 0 62 63 TRANS_IDX_LPS c.args.p_state_idx refl (omega arith)).1
