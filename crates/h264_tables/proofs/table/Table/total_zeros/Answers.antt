use Rattle.std.proofs.Common.{◌≡◌, refl, arith}
use Rattle.h264_tables.specs.Choice.{total_zeros_tables}
use Rattle.h264_tables.proofs.table.Table.total_zeros.Goals as goal

pub returns-in_default : goal.returns-in_default
unfolding total_zeros_tables
returns-in_default c = let last : c.args.index ≡ 15 = omega arith in rw last refl
