use Rattle.std.proofs.Common.{refl}
use Rattle.h264_tables.specs.declared.thresholds.TheConstants.{BETA}
use Rattle.h264_tables.proofs.Within.{are_within, within-at}
use Rattle.h264_tables.proofs.thresholds.beta.Goals as goal

pub returns-clause-small : goal.returns-clause-small
unfolding are_within
returns-clause-small c = within-at 18 BETA c.args.index_b refl
