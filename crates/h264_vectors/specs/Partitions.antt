-- How mb_type and sub_mb_type of P slices name partitions (Tables 7-13 and 7-17). To be read beside the standard.
use Rattle.std.specs.Prelude.{◌≡◌, ℕ, zero, suc, List}
use Rattle.h264_near.specs.declared.partition.SubPartition.{SubPartition}
use Rattle.h264_near.specs.declared.partition.SubPartition.TheVariants as sub
use Rattle.h264_near.specs.declared.partition.Partition.{Partition}
use Rattle.h264_near.specs.declared.partition.Partition.TheVariants.{P16x16, P16x8, P8x16, P8x8}

-- sub_mb_type, 0 to 3
abbrev pub sub_partition_of : ℕ → SubPartition
sub_partition_of zero = sub.P8x8
sub_partition_of (suc zero) = sub.P8x4
sub_partition_of (suc (suc zero)) = sub.P4x8
sub_partition_of (suc (suc (suc kind))) = sub.P4x4

-- mb_type, 0 to 4; with 3 and 4, P_8x8 and P_8x8ref0, each sub-macroblock has a sub_mb_type
abbrev pub IsOfType : ℕ → Partition → Type 0
IsOfType zero p = p ≡ P16x16
IsOfType (suc zero) p = p ≡ P16x8
IsOfType (suc (suc zero)) p = p ≡ P8x16
IsOfType (suc (suc (suc kind))) p = (types : List SubPartition) × (p ≡ P8x8 types)
