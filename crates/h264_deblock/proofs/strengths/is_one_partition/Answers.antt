use Rattle.std.proofs.Common.{Option, Some, ap, subst, ◌∙◌}
use Rattle.h264_near.specs.declared.partition.Partition.{Partition}
use Rattle.h264_deblock.specs.Steps.{MovesBy}
use Rattle.h264_deblock.proofs.strengths.is_one_partition.Goals as goal

pub returns-in-P16x16 : goal.returns-in-P16x16
returns-in-P16x16 c t motions moves = subst (λ (z : Option Partition). MovesBy z motions) (c.in-Some.is ∙ ap Some c.in-P16x16.is) moves
