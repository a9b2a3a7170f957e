use Rattle.std.proofs.Common.{refl, arith, ◌+◌, ◌*◌}
use Rattle.h264_cabac.specs.declared.states.TheConstants.{RANGE_TAB_LPS}
use Rattle.h264_cabac.proofs.Between.{are_between, between-at}
use Rattle.h264_cabac.proofs.states.range_of_least_probable.Goals as goal

pub returns-clause-some : goal.returns-clause-some
unfolding are_between
returns-clause-some c = (between-at 6 240 252 RANGE_TAB_LPS (4 * c.args.p_state_idx + c.args.quarter) refl (omega arith)).0

pub returns-clause-small : goal.returns-clause-small
unfolding are_between
returns-clause-small c = (between-at 6 240 252 RANGE_TAB_LPS (4 * c.args.p_state_idx + c.args.quarter) refl (omega arith)).1
