use Rattle.std.proofs.Common.{subst}
use Rattle.h264_near.specs.declared.partition.Partition.{Partition}
use Rattle.h264_near.specs.Partition.{MovesByPartition}
use Rattle.h264_deblock.proofs.Partitions.{joined16x16, joined16x8-columns, joined16x8-rows, joined8x16-rows, joined8x16-columns, joined8x8, not_equal}
use Rattle.h264_deblock.proofs.joined.is_within.Goals as goal

pub returns-in-P16x16 : goal.returns-in-P16x16
returns-in-P16x16 c t motions moves = joined16x16 c.args.vertical c.args.line motions c.requires.some c.requires.line
    (subst (λ (z : Partition). MovesByPartition z motions) c.in-P16x16.is moves)

pub returns-then-vertical : goal.returns-then-vertical
returns-then-vertical c t motions moves =
    rw c.if-vertical.true (joined16x8-columns c.args.line motions c.requires.some c.requires.line
    (subst (λ (z : Partition). MovesByPartition z motions) c.in-P16x8.is moves))

pub returns-else-vertical : goal.returns-else-vertical
returns-else-vertical c t motions moves =
    rw c.if-vertical.false (joined16x8-rows c.args.line motions c.requires.some c.requires.line (λ e. not_equal c.args.line 2 e t)
    (subst (λ (z : Partition). MovesByPartition z motions) c.in-P16x8.is moves))

pub returns-then-not-vertical : goal.returns-then-not-vertical
returns-then-not-vertical c t motions moves =
    rw c.if-not-vertical.true (joined8x16-rows c.args.line motions c.requires.some c.requires.line
    (subst (λ (z : Partition). MovesByPartition z motions) c.in-P8x16.is moves))

pub returns-else-not-vertical : goal.returns-else-not-vertical
returns-else-not-vertical c t motions moves =
    rw c.if-not-vertical.false (joined8x16-columns c.args.line motions c.requires.some c.requires.line (λ e. not_equal c.args.line 2 e t)
    (subst (λ (z : Partition). MovesByPartition z motions) c.in-P8x16.is moves))

pub returns-else-line-eq-HALF : goal.returns-else-line-eq-HALF
returns-else-line-eq-HALF c t motions moves =
    joined8x8 _ c.args.vertical c.args.line motions c.requires.some c.requires.line c.if-line-eq-HALF.false (c.are_one_part.ensures t)
    (subst (λ (z : Partition). MovesByPartition z motions) c.in-P8x8.is moves)
