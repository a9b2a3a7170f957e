use Rattle.std.proofs.Common.{refl, ◌-◌}
use Rattle.std.specs.Int.{w32}
use lib.IntN.{nat_abs}
use mir.Val.{to_z, of_z}
use Rattle.h264_tables.specs.declared.quantisation.TheConstants.{FROM_30}
use Rattle.h264_tables.proofs.Within.{are_within, within-at}
use Rattle.h264_tables.proofs.quantisation.chroma_qp.Goals as goal

pub returns-else-index-lt30-clause-small : goal.returns-else-index-lt30-clause-small
unfolding are_within
returns-else-index-lt30-clause-small c = within-at 39 FROM_30 (nat_abs (to_z w32 (of_z w32 c.clamp-index.result)) - 30) refl
