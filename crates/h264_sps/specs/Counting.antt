-- How pictures are counted: the part of the sequence parameter set from pic_order_cnt_type on (7.3.2.1.1). To be read beside the standard.
use Rattle.std.specs.Prelude.{ℕ, ℤ, zero, suc, ◌+◌, ◌-◌, pos, List, [], ◌++◌, length, replicate}
use Rattle.h264_base.specs.declared.element_name.ElementName.TheVariants.{PicOrderCntType, Log2MaxPicOrderCntLsbMinus4, DeltaPicOrderAlwaysZeroFlag}
use Rattle.h264_base.specs.declared.element_name.ElementName.TheVariants.{OffsetForNonRefPic, OffsetForTopToBottomField, NumRefFramesInPicOrderCntCycle}
use Rattle.h264_base.specs.declared.element_name.ElementName.TheVariants.{OffsetForRefFrame}
use Rattle.h264_base.specs.Grammar.{Grammar, Done, ◌>>=◌}
use Rattle.h264_bits.specs.Forms.{unsigned_to, signed, flag, repeated}
use Rattle.h264_sps.specs.declared.count_type.Cycle.{Cycle}
use Rattle.h264_sps.specs.declared.count_type.CountType.{CountType}
use Rattle.h264_sps.specs.declared.count_type.CountType.TheVariants as count_type

-- the offsets, and 0 in the places after them
abbrev pub cycle_of : List ℤ → Cycle
cycle_of offsets = record {
  offset_for_ref_frame = offsets ++ replicate (255 - length offsets) (pos 0);
  length = length offsets;
}

unfoldable pub lsb_type : Grammar CountType
lsb_type = do
  log2_minus4 ← unsigned_to Log2MaxPicOrderCntLsbMinus4 12
  Done (count_type.Lsb (log2_minus4 + 4))

unfoldable pub cycle_type : Grammar CountType
cycle_type = do
  always_zero ← flag DeltaPicOrderAlwaysZeroFlag
  non_ref ← signed OffsetForNonRefPic
  bottom ← signed OffsetForTopToBottomField
  count ← unsigned_to NumRefFramesInPicOrderCntCycle 255
  offsets ← repeated (signed OffsetForRefFrame) [] count
  Done (count_type.Cycle always_zero non_ref bottom (cycle_of offsets))

unfoldable pub of_type : ℕ → Grammar CountType
of_type zero = lsb_type
of_type (suc zero) = cycle_type
of_type (suc (suc n)) = Done count_type.DecodingOrder

unfoldable pub counting : Grammar CountType
counting = do
  kind ← unsigned_to PicOrderCntType 2
  of_type kind
