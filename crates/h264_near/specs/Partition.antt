-- Macroblock partitions and sub-macroblock partitions (6.4.2, Tables 7-13 and 7-17), and what moves alike. To be read beside the standard.
use Rattle.std.specs.Prelude.{◌≡◌, ℕ, ◌+◌, ◌*◌, ◌/◌, ◌%◌, ◌<◌, List, get_or, Option, None}
use Rattle.h264_near.specs.declared.motion.Motion.{Motion}
use Rattle.h264_near.specs.declared.partition.SubPartition.{SubPartition}
use Rattle.h264_near.specs.declared.partition.SubPartition.TheVariants as sub
use Rattle.h264_near.specs.declared.partition.Partition.{Partition}
use Rattle.h264_near.specs.declared.partition.Partition.TheVariants.{P16x16, P16x8, P8x16, P8x8}

-- The first 4x4 block of the sub-macroblock partition in which a block lies. The four blocks of a sub-macroblock stand row by row, from 0 on.
abbrev pub first_in_sub : SubPartition → ℕ → ℕ
first_in_sub sub.P8x8 k = 0
first_in_sub sub.P8x4 k = k / 2 * 2
first_in_sub sub.P4x8 k = k % 2
first_in_sub sub.P4x4 k = k

-- the first 4x4 luma block of the partition in which a block lies, both by their number (6.4.3)
abbrev pub first_of : Partition → ℕ → ℕ
first_of P16x16 n = 0
first_of P16x8 n = n / 8 * 8
first_of P8x16 n = n / 4 % 2 * 4
first_of (P8x8 types) n = n / 4 * 4 + first_in_sub (get_or types (n / 4) sub.P8x8) (n % 4)

-- the blocks of each partition have one reference and one vector
pub record MovesByPartition (partition : Partition) (motions : List (Option Motion)) : Type 0 where
  pub each : (n : ℕ) → n < 16 → get_or motions n None ≡ get_or motions (first_of partition n) None
