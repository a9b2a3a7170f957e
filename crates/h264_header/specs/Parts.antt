-- A working form, for the functions that read a slice header part by part: the operands of marking operations by their names, and the rest of a header,
-- from an element on, after what it has so far.
use Rattle.std.specs.Prelude.{ℕ, nat_lt, ◌==◌, if◌then◌else◌}
use Rattle.h264_base.specs.declared.element_name.ElementName.{ElementName}
use Rattle.h264_base.specs.declared.element_name.ElementName.TheVariants as name
use Rattle.h264_base.specs.Word.{Fixed, Signed}
use Rattle.h264_base.specs.Grammar.{Grammar, Done, ◌>>=◌, element}
use Rattle.h264_bits.specs.Forms.{optional}
use Rattle.h264_header.specs.declared.header.Header.{Header}
use Rattle.h264_header.specs.declared.header.Operation.{Operation}
use Rattle.h264_header.specs.declared.header.Operation.TheVariants as operation
use Rattle.h264_header.specs.declared.header.SliceUnit.{SliceUnit}
use Rattle.h264_header.specs.declared.layout.Layout.{Layout}
use Rattle.h264_header.specs.declared.read.StatedType.{StatedType}
use Rattle.h264_header.specs.Header.{idr_pic_id, pic_order_cnt, deblocking}
use Rattle.h264_header.specs.Listed.{found_unsigned, found_signed}
use Rattle.h264_header.specs.Marking.{dec_ref_pic_marking}
use Rattle.h264_header.specs.RefList.{slice_kind}

-- the first operand of a marking operation other than 5
abbrev pub operand_name : ℕ → ElementName
operand_name number =
    if number == 2 then name.LongTermPicNum
    else if number == 4 then name.MaxLongTermFrameIdxPlus1
    else if number == 6 then name.LongTermFrameIdx
    else name.DifferenceOfPicNumsMinus1

-- operation 1, 2, 4 or 6, which have one operand
abbrev pub with_operand : ℕ → ℕ → Operation
with_operand number operand =
    if number == 1 then operation.UnmarkShortTerm operand
    else if number == 2 then operation.UnmarkLongTerm operand
    else if number == 4 then operation.LimitLongTerm operand
    else operation.MakeCurrentLongTerm operand

unfoldable pub header_from_kind : Header → SliceUnit → StatedType → Layout → Grammar Header
header_from_kind h unit stated layout = do
  kind ← slice_kind layout stated.slice_type
  marking ← optional (nat_lt 0 unit.nal_ref_idc) (dec_ref_pic_marking unit.idr_pic_flag)
  qp ← element name.SliceQpDelta Signed
  filter ← deblocking layout.has_deblocking_control
  Done (record {
    nal_ref_idc = h.nal_ref_idc;
    first_mb_in_slice = h.first_mb_in_slice;
    kind = record { bit = stated.bit; value = kind };
    same_type_in_picture = h.same_type_in_picture;
    pic_parameter_set_id = h.pic_parameter_set_id;
    frame_num = h.frame_num;
    idr_pic_id = h.idr_pic_id;
    pic_order_cnt = h.pic_order_cnt;
    marking = marking;
    slice_qp_delta = found_signed qp;
    deblocking = filter;
  })

unfoldable pub header_from_frame_num : Header → SliceUnit → StatedType → Layout → Grammar Header
header_from_frame_num h unit stated layout = do
  frame_num ← element name.FrameNum (Fixed layout.frame_num_length)
  idr ← optional unit.idr_pic_flag idr_pic_id
  order ← pic_order_cnt layout.count layout.has_bottom
  header_from_kind
      (record {
        nal_ref_idc = h.nal_ref_idc;
        first_mb_in_slice = h.first_mb_in_slice;
        kind = h.kind;
        same_type_in_picture = h.same_type_in_picture;
        pic_parameter_set_id = h.pic_parameter_set_id;
        frame_num = found_unsigned frame_num;
        idr_pic_id = idr;
        pic_order_cnt = order;
        marking = h.marking;
        slice_qp_delta = h.slice_qp_delta;
        deblocking = h.deblocking;
      })
      unit
      stated
      layout
