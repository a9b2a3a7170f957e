-- The rules that a slice meets beside its own syntax (7.4.1.2, 7.4.3, 8.2.1, 8.2.4). To be read beside the standard.
use Rattle.std.specs.Prelude.{ℕ, ◌*◌, ◌==◌, ◌&&◌, ◌||◌, not, Bool, true, false, Option, Some, None, Result, List, [], ◌∷◌, ◌++◌, map, ℤ, pos, ◌+ℤ◌}
use Rattle.std.specs.Prelude.{int_le, if◌then◌else◌}
use Rattle.std.specs.List.{list_any}
use Rattle.std.specs.Option.{is_some}
use Rattle.h264_base.specs.declared.rule.Rule.TheVariants as rule
use Rattle.h264_verify.specs.declared.state.Depth.{Depth}
use Rattle.h264_verify.specs.declared.state.Depth.TheVariants as depths
use Rattle.h264_base.specs.Call.{Call, OfSlice}
use Rattle.h264_bits.specs.declared.element.Found.{Found}
use Rattle.h264_sps.specs.declared.sps.Sps.{Sps}
use Rattle.h264_sps.specs.contracts.sps.SpsPartialEq.TheImpl as eq_sps
use Rattle.h264_pps.specs.declared.Pps.{Pps}
use Rattle.h264_sets.specs.Sets.{Maps}
use Rattle.h264_sets.specs.declared.SetPair.{SetPair}
use Rattle.h264_header.specs.declared.header.Header.{Header}
use Rattle.h264_header.specs.declared.header.SliceKind.{SliceKind}
use Rattle.h264_header.specs.declared.header.SliceKind.TheVariants as kinds
use Rattle.h264_header.specs.declared.header.Marking.{Marking}
use Rattle.h264_header.specs.SameMarking.{same_marking}
use Rattle.h264_poc.specs.declared.picture.Picture.{Picture}
use Rattle.h264_marking.specs.declared.frame.Numbering.{Numbering}
use Rattle.h264_marking.specs.Frames.{References}
use Rattle.h264_marking.specs.Gaps.{is_new_num, gap_before, entered}
use Rattle.h264_lists.specs.declared.slot.RefSlot.{RefSlot}
use Rattle.h264_verify.specs.Content.{Content}
use Rattle.h264_verify.specs.Content as contents
use Rattle.h264_verify.specs.Demands.{Demand}
use Rattle.h264_dpb.specs.Buffered.{Buffered}
use Rattle.h264_dpb.specs.Turns.{Shown}
use Rattle.h264_verify.specs.Buffering.{newest_count, frame_count, after_all}
use Rattle.h264_units.specs.UnitHeader.{header_of, nal_unit_type}
use Rattle.h264_verify.specs.History.{History}
use Rattle.h264_verify.specs.Pictures.{CodedSlice, CodedPicture}
use Rattle.h264_verify.specs.Pictures.{bit_of, is_met, counted, prev_ref_frame_num_of, held_after, held_in}
use Rattle.h264_header.specs.Picture.{is_idr}
use Rattle.h264_header.specs.Header.{slice_type_of}

abbrev pub is_i : SliceKind → Bool
is_i kinds.I = true
is_i (kinds.P list) = false

-- idr_pic_id of the newest picture, where it is an IDR picture
abbrev pub idr_id : Option (Found ℕ) → Option ℕ
idr_id None = None
idr_id (Some found) = Some found.value

abbrev pub newest_idr_of : List CodedPicture → Option ℕ
newest_idr_of [] = None
newest_idr_of (p ∷ pictures) = idr_id p.first.header.idr_pic_id

-- the marking of the newest picture, which its first slice gives
abbrev pub newest_marking : List CodedPicture → Option (Found Marking)
newest_marking [] = None
newest_marking (p ∷ pictures) = p.first.header.marking

-- the bit of an element that may not be there
abbrev pub bit_of_id : Option (Found ℕ) → ℕ
bit_of_id None = 0
bit_of_id (Some found) = found.bit

abbrev pub bit_of_marking : Option (Found Marking) → ℕ
bit_of_marking None = 0
bit_of_marking (Some found) = found.bit

-- an IDR picture that directly follows an IDR picture has another idr_pic_id
abbrev pub changes_id : Option ℕ → Option (Found ℕ) → Bool
changes_id None id = true
changes_id (Some newest) None = true
changes_id (Some newest) (Some id) = not (newest == id.value)

-- 26 + pic_init_qp_minus26 + slice_qp_delta lies in 0 to 51
abbrev pub is_qp : ℤ → ℤ → Bool
is_qp init delta = int_le (pos 0) ((pos 26 +ℤ init) +ℤ delta) && int_le ((pos 26 +ℤ init) +ℤ delta) (pos 51)

-- An IDR picture is due at the beginning, and after an end of sequence or of stream (7.4.1.2.1).
abbrev pub due_after : Content → ℕ → Bool → Bool
due_after (contents.OfSlice h macroblocks) kind due = false
due_after (contents.OfSps set) kind due = (kind == 10 || kind == 11) || due
due_after (contents.OfPps set) kind due = (kind == 10 || kind == 11) || due
due_after contents.Passed kind due = (kind == 10 || kind == 11) || due

abbrev pub is_idr_due : History → Bool
is_idr_due [] = true
is_idr_due (r ∷ before) = due_after r.content (nal_unit_type (header_of r.unit)) (is_idr_due before)

-- the sequence parameter set of a pair has this content
abbrev pub has_content : Sps → Option SetPair → Bool
has_content sps None = false
has_content sps (Some pair) = eq_sps.ghosts.eq pair.sps sps

-- that of the pair that the last slice named
abbrev pub is_active : Maps → Sps → Bool
is_active maps sps = has_content sps maps.active

-- one of these slices is I; one is P; one says that all slices of its picture have its type (7.4.3)
abbrev pub has_i : List CodedSlice → Bool
has_i slices = list_any (λ s. is_i s.header.kind.value) slices

abbrev pub has_p : List CodedSlice → Bool
has_p slices = list_any (λ s. not (is_i s.header.kind.value)) slices

abbrev pub states_type : List CodedSlice → Bool
states_type slices = list_any (λ s. s.header.same_type_in_picture) slices

-- What the rules of a picture's first slice look at: the pictures before it, the newest of which has ended.
pub record PicturesBefore : Type 0 where
  -- idr_pic_id of the newest, where that is an IDR picture
  pub newest_idr : Option ℕ
  -- PrevRefFrameNum
  pub prev_ref_frame_num : ℕ
  -- the held frames
  pub held : References
  -- what their counts go by, the newest first
  pub counted : List Picture
  -- the picture buffer
  pub buffer : Buffered Shown

abbrev pub pictures_before : List CodedPicture → PicturesBefore
pictures_before pictures = record {
  newest_idr = newest_idr_of pictures;
  prev_ref_frame_num = prev_ref_frame_num_of pictures;
  held = held_after pictures;
  counted = map counted pictures;
  buffer = (after_all pictures).buffer;
}

-- the slices of the newest picture, the last one first
abbrev pub newest_slices : List CodedPicture → List CodedSlice
newest_slices [] = []
newest_slices (p ∷ pictures) = p.later ++ p.first ∷ []

-- What the rules of a later slice look at: the slices of its picture before it.
pub record SlicesBefore : Type 0 where
  -- one of them is I; one is P; one says that all have its type
  pub has_i : Bool
  pub has_p : Bool
  pub states_type : Bool
  -- the marking of the first
  pub marking : Option (Found Marking)
  -- the held frames
  pub held : References

abbrev pub slices_before : List CodedPicture → SlicesBefore
slices_before pictures = record {
  has_i = has_i (newest_slices pictures);
  has_p = has_p (newest_slices pictures);
  states_type = states_type (newest_slices pictures);
  marking = newest_marking pictures;
  held = held_in pictures;
}

-- Where one of them or this slice says so, all have its type (7.4.3).
abbrev pub agrees : SlicesBefore → Header → Bool
agrees before h = not (h.same_type_in_picture || before.states_type) || not (if is_i h.kind.value then before.has_p else before.has_i)

-- An IDR picture comes where one is due (7.4.1.2.1).
abbrev pub idr_demand : Bool → ℕ → Header → Demand
idr_demand due bit h = record { rule = rule.FirstPicture; bit = bit; met = not due || is_idr h }

-- Only a picture that is an IDR picture changes the sequence parameter set (7.4.1.2.1).
abbrev pub set_demand : Bool → Maps → Sps → Header → Demand
set_demand renews maps sps h = record { rule = rule.SetChanged; bit = h.pic_parameter_set_id.bit; met = renews || is_active maps sps }

-- first_mb_in_slice is the number of macroblocks that are already coded in the picture (7.4.3). Slice data tell it.
abbrev pub first_mb_demands : Depth → ℕ → Header → List Demand
first_mb_demands depths.Units coded h = []
first_mb_demands depths.Headers coded h = []
first_mb_demands depths.Full coded h = record { rule = rule.FirstMb; bit = h.first_mb_in_slice.bit; met = h.first_mb_in_slice.value == coded } ∷ []

-- IDR slices, and all where there are no reference frames, are I (7.4.3).
abbrev pub type_demand : Sps → Header → Demand
type_demand sps h = record { rule = rule.SliceType; bit = h.kind.bit; met = is_i h.kind.value || not (is_idr h || sps.max_num_ref_frames == 0) }

-- Where one says so, the slices of a picture have one type (7.4.3).
abbrev pub same_type_demand : SlicesBefore → Header → Demand
same_type_demand before h = record { rule = rule.SliceType; bit = h.kind.bit; met = agrees before h }

-- frame_num of an IDR picture is 0 (7.4.3).
abbrev pub idr_num_demand : Header → Demand
idr_num_demand h = record { rule = rule.FrameNum; bit = h.frame_num.bit; met = not (is_idr h) || h.frame_num.value == 0 }

-- frame_num of another picture follows PrevRefFrameNum, or there is a gap, where the sequence allows gaps (7.4.3).
abbrev pub gap_demand : Bool → Bool → ℕ → ℕ → Numbering → Demand
gap_demand idr gaps_allowed bit prev n = record { rule = rule.FrameNum; bit = bit; met = gap_before idr prev n == 0 || gaps_allowed }

-- Once the gap is filled it is a new number, if the picture is a reference (7.4.3).
abbrev pub new_num_demand : Bool → Bool → ℕ → ℕ → Numbering → References → Demand
new_num_demand idr reference bit prev n refs =
    record { rule = rule.FrameNum; bit = bit; met = idr || not reference || is_new_num prev n.frame_num (entered idr prev n refs) }

-- An IDR picture that directly follows an IDR picture has another idr_pic_id (7.4.3).
abbrev pub id_demand : Option ℕ → Header → Demand
id_demand newest_idr h = record { rule = rule.IdrPicId; bit = bit_of_id h.idr_pic_id; met = changes_id newest_idr h.idr_pic_id }

-- The counts of the newest of these pictures are in range (8.2.1).
abbrev pub count_demand : List Picture → ℕ → Demand
count_demand pictures bit = record { rule = rule.Count; bit = bit; met = is_some (newest_count pictures) }

-- SliceQPY is in range (7.4.3).
abbrev pub qp_demand : Pps → Header → Demand
qp_demand pps h = record { rule = rule.Qp; bit = h.slice_qp_delta.bit; met = is_qp pps.pic_init_qp_minus26 h.slice_qp_delta.value }

-- The modifications of the list name held frames (8.2.4.3).
abbrev pub list_demand : Result (List RefSlot) ℕ → Demand
list_demand r = record { rule = rule.ListCommand; bit = bit_of r; met = is_met r }

-- Later slices of a picture are marked as the first is (7.4.3.3).
abbrev pub marking_demand : Option (Found Marking) → Header → Demand
marking_demand first h = record { rule = rule.MarkDiffers; bit = bit_of_marking h.marking; met = same_marking first h.marking }

-- the first bit of a slice's unit
abbrev pub first_bit : CodedSlice → ℕ
first_bit s = 8 * s.unit.from

-- what the sink is told of a slice: the byte where its unit begins, first_mb_in_slice, its type, frame_num, and its picture's count
abbrev pub slice_call : List CodedPicture → CodedSlice → Call
slice_call pictures s = OfSlice s.unit.from s.header.first_mb_in_slice.value (slice_type_of s.header.kind.value) s.header.frame_num.value
    (frame_count (newest_count (map counted pictures)))
