-- slice_header() (7.3.3), with the rules on its values (7.4.3, A.2.1). To be read beside the standard.
use Rattle.std.specs.Prelude.{ℕ, zero, suc, ◌%◌, ◌==◌, ◌||◌, nat_le, nat_lt, negsuc, pos, Bool, true, false, Option, None, unwrap_or, if◌then◌else◌}
use Rattle.std.specs.Option.{is_some, option_map}
use Rattle.h264_base.specs.declared.element_name.ElementName.TheVariants as name
use Rattle.h264_base.specs.declared.rule.Rule.TheVariants.{Range, Tool, NoSet}
use Rattle.h264_base.specs.declared.mode.SliceType.{SliceType}
use Rattle.h264_base.specs.declared.mode.SliceType.TheVariants as slice_type
use Rattle.h264_base.specs.Word.{Fixed, Unsigned, Signed}
use Rattle.h264_base.specs.Grammar.{Grammar, Done, ◌>>=◌, element, check}
use Rattle.h264_bits.specs.Forms.{natural, signed, signed_within, unsigned_to, optional}
use Rattle.h264_bits.specs.declared.element.Found.{Found}
use Rattle.h264_sps.specs.declared.sps.Sps.{Sps}
use Rattle.h264_pps.specs.declared.Pps.{Pps}
use Rattle.h264_header.specs.declared.header.SliceUnit.{SliceUnit}
use Rattle.h264_header.specs.declared.header.PicOrderCnt.{PicOrderCnt}
use Rattle.h264_header.specs.declared.header.PicOrderCnt.TheVariants as count
use Rattle.h264_header.specs.declared.header.SliceKind.{SliceKind}
use Rattle.h264_header.specs.declared.header.SliceKind.TheVariants as kinds
use Rattle.h264_header.specs.declared.header.FilterOffsets.{FilterOffsets}
use Rattle.h264_header.specs.declared.header.Deblocking.{Deblocking}
use Rattle.h264_header.specs.declared.header.Deblocking.TheVariants.{AllEdges, Off, WithinSlice}
use Rattle.h264_header.specs.declared.header.Header.{Header}
use Rattle.h264_header.specs.declared.layout.CountElements.{CountElements}
use Rattle.h264_header.specs.declared.layout.CountElements.TheVariants as elements
use Rattle.h264_header.specs.declared.read.StatedType.{StatedType}
use Rattle.h264_header.specs.declared.read.NamedSets.{NamedSets}
use Rattle.h264_header.specs.Layout.{layout_of, no_layout}
use Rattle.h264_header.specs.Listed.{found_unsigned, found_signed, or_0}
use Rattle.h264_header.specs.RefList.{slice_kind}
use Rattle.h264_header.specs.Marking.{dec_ref_pic_marking}

-- 0 and 5 are P, 2 and 7 are I; the others up to 9 are B, SP and SI
abbrev pub is_judged_type : ℕ → Bool
is_judged_type value = value % 5 == 0 || value % 5 == 2

-- the type of a slice, without what only slices of that type have
abbrev pub slice_type_of : SliceKind → SliceType
slice_type_of kinds.I = slice_type.I
slice_type_of (kinds.P list) = slice_type.P

abbrev pub type_of : ℕ → SliceType
type_of value = if value % 5 == 0 then slice_type.P else slice_type.I

unfoldable pub stated_type : Grammar StatedType
stated_type = do
  e ← element name.SliceType Unsigned
  _ ← check Range e.bit (nat_le (natural e.value) 9)
  _ ← check Tool e.bit (is_judged_type (natural e.value))
  Done (record { bit = e.bit; slice_type = type_of (natural e.value); same_in_picture = nat_le 5 (natural e.value) })

-- pic_parameter_set_id, and what the sets that it names say of the header; no set has an id above 255
unfoldable pub named_sets : (ℕ → Option (Pps × Sps)) → Grammar NamedSets
named_sets sets = do
  e ← element name.PicParameterSetId Unsigned
  _ ← check NoSet e.bit (nat_le (natural e.value) 255)
  _ ← check NoSet e.bit (is_some (option_map layout_of (sets (natural e.value))))
  Done (record { id = found_unsigned e; layout = unwrap_or (option_map layout_of (sets (natural e.value))) no_layout })

unfoldable pub idr_pic_id : Grammar (Found ℕ)
idr_pic_id = do
  e ← element name.IdrPicId Unsigned
  _ ← check Range e.bit (nat_le (natural e.value) 65535)
  Done (found_unsigned e)

unfoldable pub lsb_count : ℕ → Bool → Grammar PicOrderCnt
lsb_count length has_bottom = do
  lsb ← element name.PicOrderCntLsb (Fixed length)
  bottom ← or_0 has_bottom (signed name.DeltaPicOrderCntBottom)
  Done (count.Lsb (natural lsb.value) bottom)

unfoldable pub delta_count : Bool → Grammar PicOrderCnt
delta_count has_bottom = do
  top ← signed name.DeltaPicOrderCnt
  bottom ← or_0 has_bottom (signed name.DeltaPicOrderCnt)
  Done (count.Deltas top bottom)

unfoldable pub pic_order_cnt : CountElements → Bool → Grammar PicOrderCnt
pic_order_cnt (elements.Lsb length) has_bottom = lsb_count length has_bottom
pic_order_cnt elements.Deltas has_bottom = delta_count has_bottom
pic_order_cnt elements.ZeroDeltas has_bottom = Done (count.Deltas (pos 0) (pos 0))
pic_order_cnt elements.DecodingOrder has_bottom = Done count.DecodingOrder

unfoldable pub filter_offsets : Grammar FilterOffsets
filter_offsets = do
  alpha ← signed_within name.SliceAlphaC0OffsetDiv2 (negsuc 5) (pos 6)
  beta ← signed_within name.SliceBetaOffsetDiv2 (negsuc 5) (pos 6)
  Done (record { slice_alpha_c0_offset_div2 = alpha; slice_beta_offset_div2 = beta })

abbrev pub no_offsets : FilterOffsets
no_offsets = record { slice_alpha_c0_offset_div2 = pos 0; slice_beta_offset_div2 = pos 0 }

-- the offsets are there unless disable_deblocking_filter_idc is 1
unfoldable pub deblocking_of : ℕ → Grammar Deblocking
deblocking_of zero = do
  offsets ← filter_offsets
  Done (AllEdges offsets)
deblocking_of (suc zero) = Done Off
deblocking_of (suc (suc n)) = do
  offsets ← filter_offsets
  Done (WithinSlice offsets)

unfoldable pub deblocking : Bool → Grammar Deblocking
deblocking false = Done (AllEdges no_offsets)
deblocking true = do
  idc ← unsigned_to name.DisableDeblockingFilterIdc 2
  deblocking_of idc

-- The header of a slice in this unit. A pic_parameter_set_id names these sets.
unfoldable pub header : (ℕ → Option (Pps × Sps)) → SliceUnit → Grammar Header
header sets unit = do
  first_mb ← element name.FirstMbInSlice Unsigned
  stated ← stated_type
  named ← named_sets sets
  frame_num ← element name.FrameNum (Fixed named.layout.frame_num_length)
  idr ← optional unit.idr_pic_flag idr_pic_id
  order ← pic_order_cnt named.layout.count named.layout.has_bottom
  kind ← slice_kind named.layout stated.slice_type
  marking ← optional (nat_lt 0 unit.nal_ref_idc) (dec_ref_pic_marking unit.idr_pic_flag)
  qp ← element name.SliceQpDelta Signed
  filter ← deblocking named.layout.has_deblocking_control
  Done (record {
    nal_ref_idc = unit.nal_ref_idc;
    first_mb_in_slice = found_unsigned first_mb;
    kind = record { bit = stated.bit; value = kind };
    same_type_in_picture = stated.same_in_picture;
    pic_parameter_set_id = named.id;
    frame_num = found_unsigned frame_num;
    idr_pic_id = idr;
    pic_order_cnt = order;
    marking = marking;
    slice_qp_delta = found_signed qp;
    deblocking = filter;
  })

-- A place for a header into which none was read: no element is there that need not be, and every number is 0.
abbrev pub unread_header : Header
unread_header = record {
  nal_ref_idc = 0;
  first_mb_in_slice = record { bit = 0; value = 0 };
  kind = record { bit = 0; value = kinds.I };
  same_type_in_picture = false;
  pic_parameter_set_id = record { bit = 0; value = 0 };
  frame_num = record { bit = 0; value = 0 };
  idr_pic_id = None;
  pic_order_cnt = count.DecodingOrder;
  marking = None;
  slice_qp_delta = record { bit = 0; value = pos 0 };
  deblocking = Off;
}
