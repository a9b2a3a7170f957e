use Rattle.std.proofs.Common.{refl}
use Rattle.h264_tables.specs.declared.thresholds.TheConstants.{TC0_ONE, TC0_TWO, TC0_THREE}
use Rattle.h264_tables.proofs.Within.{are_within, within-at}
use Rattle.h264_tables.proofs.thresholds.tc0.Goals as goal

pub returns-in-One-clause-small : goal.returns-in-One-clause-small
unfolding are_within
returns-in-One-clause-small c = within-at 25 TC0_ONE c.args.index_a refl

pub returns-in-Two-clause-small : goal.returns-in-Two-clause-small
unfolding are_within
returns-in-Two-clause-small c = within-at 25 TC0_TWO c.args.index_a refl

pub returns-in-Three-clause-small : goal.returns-in-Three-clause-small
unfolding are_within
returns-in-Three-clause-small c = within-at 25 TC0_THREE c.args.index_a refl
