-- The order of all checks, on one page: each list is judged from its first rule to its last. To be read beside the standard, and beside docs/RULES.md.
-- A depth leaves out what it says at once: `Units` passes slices over, and `Headers` slice data with what they give. The mode `Verdict` leaves out
-- nothing here: it is judged in full, and its sink is told no frames (Modes, Telling).
use Rattle.std.specs.Prelude.{ℕ, Bool, true, not, List, [], ◌∷◌, ◌==◌, if◌then◌else◌, length, ◌*◌, false, Option, Some, None}
use Rattle.h264_base.specs.Grammar.{Grammar, ◌>>=◌, Done}
use Rattle.h264_rbsp.specs.Rbsp.{body_of}
use Rattle.h264_verify.specs.declared.state.Depth.{Depth}
use Rattle.h264_base.specs.declared.rule.Rule.TheVariants.{ForbiddenBit, RefIdc, Partition, Incomplete}
use Rattle.h264_dpb.specs.Buffered.{Buffered}
use Rattle.h264_dpb.specs.Turns.{Shown}
use Rattle.h264_header.specs.Picture.{is_idr, is_reference}
use Rattle.h264_header.specs.declared.header.Header.{Header}
use Rattle.h264_marking.specs.Ended.{numbering_of}
use Rattle.h264_marking.specs.Frames.{References}
use Rattle.h264_marking.specs.Gaps.{unused_short_term_frame_nums, entered}
use Rattle.h264_poc.specs.OfSlice.{picture_of}
use Rattle.h264_pps.specs.Pps.{pps}
use Rattle.h264_pps.specs.declared.Pps.{Pps}
use Rattle.h264_sets.specs.Sets.{Maps}
use Rattle.h264_sps.specs.Sps.{sps}
use Rattle.h264_sps.specs.declared.sps.Sps.{Sps}
use Rattle.h264_units.specs.Stream.{NalUnit}
use Rattle.h264_verify.specs.Buffering.{closing_frames, last_frames, missing_steps}
use Rattle.h264_verify.specs.Content.{Content}
use Rattle.h264_verify.specs.Data.{slice_data_at}
use Rattle.h264_verify.specs.Demands.{Demand}
use Rattle.h264_verify.specs.History.{History, maps_of}
use Rattle.h264_verify.specs.Lists.{list_of}
use Rattle.h264_verify.specs.Pictures.{CodedPicture, last_slice, bit_after, picture_size, goes_on, runs_of, CodedSlice, sets_at}
use Rattle.h264_units.specs.UnitHeader.{ends_picture}
use Rattle.h264_verify.specs.Pictures.{with_sets, joined_to, begins_at, coded_of, end_of_picture}
use Rattle.h264_verify.specs.Slices.{PicturesBefore, pictures_before, SlicesBefore, slices_before, is_idr_due, idr_demand, set_demand, first_mb_demands}
use Rattle.h264_verify.specs.Slices.{type_demand, same_type_demand, idr_num_demand, gap_demand, new_num_demand, id_demand, count_demand, qp_demand}
use Rattle.h264_verify.specs.Slices.{list_demand, marking_demand, first_bit, slice_call}
use Rattle.h264_verify.specs.Course.{Course, Ends, Needs, Reads, Steps, nothing, ◌>>◌, needs, tells}
use Rattle.h264_verify.specs.Telling.{Said}
use Rattle.h264_units.specs.UnitHeader.{header_of, nal_unit_type, nal_ref_idc, forbidden_zero_bit, is_partition, fits_kind}
use Rattle.h264_verify.specs.Units.{unit_call, other_content, picture_demand}
use Rattle.h264_verify.specs.declared.state.Extent.{Extent}
use Rattle.h264_verify.specs.declared.state.Depth.TheVariants as depths
use Rattle.h264_verify.specs.Content as contents

-- ---- the first byte of a unit, which is judged first

-- The rules of that byte, at the unit's first bit (7.4.1, A.2).
abbrev pub header_demands : ℕ → ℕ → List Demand
header_demands bit header =
    record { rule = ForbiddenBit; bit = bit; met = forbidden_zero_bit header == 0 }
    ∷ record { rule = RefIdc; bit = bit; met = fits_kind (nal_unit_type header) (nal_ref_idc header) }
    ∷ record { rule = Partition; bit = bit; met = not (is_partition (nal_unit_type header)) }
    ∷ []

-- ---- the end of a picture

-- At the end of a picture all its macroblocks are coded (7.4.3).
abbrev pub whole_picture : List CodedPicture → Steps
whole_picture [] = nothing
whole_picture (p ∷ pictures) =
    Needs (record { rule = Incomplete; bit = bit_after (last_slice p).unit; met = length (last_slice p).macroblocks == picture_size p.first.sps })
    nothing

-- This is judged where slice data are read.
abbrev pub whole_steps : Depth → History → Steps
whole_steps depths.Units before = nothing
whole_steps depths.Headers before = nothing
whole_steps depths.Full before = if goes_on before then whole_picture (runs_of before) else nothing

-- The rules at the end of the picture that may go on after these units, if there is one.
abbrev pub closing_demands : History → List Demand
closing_demands before = if goes_on before then end_of_picture (runs_of before) else []

-- The end of that picture: its macroblocks, the rules at its end, and then frames are written (C.4.4, C.4.5).
abbrev pub close_steps : Depth → History → Steps
close_steps depth before =
    whole_steps depth before
    >> needs (closing_demands before)
    >> closing_frames depth before

-- It comes before what ends it.
abbrev pub close_if : Bool → Depth → History → Steps
close_if ends depth before = if ends then close_steps depth before else nothing

-- ---- the first slice of a picture

-- The rules on frame_num of a picture that this slice begins, and between them the missing numbers before it, each of which is filled,
-- where PrevRefFrameNum, the held frames and the picture buffer are these.
abbrev pub gap_rules : Depth → CodedSlice → ℕ → References → Buffered Shown → Steps
gap_rules depth s prev refs b =
    needs (gap_demand (is_idr s.header) s.sps.gaps_in_frame_num_value_allowed_flag s.header.frame_num.bit prev (numbering_of s.sps s.header) ∷ [])
    >> missing_steps depth s.header.frame_num.bit (numbering_of s.sps s.header)
    (unused_short_term_frame_nums (is_idr s.header) prev (numbering_of s.sps s.header)) refs b
    >> needs (new_num_demand (is_idr s.header) (is_reference s.header) s.header.frame_num.bit prev (numbering_of s.sps s.header) refs ∷ [])

-- The rules of such a slice before those,
abbrev pub rules_before_gap : CodedSlice → List Demand
rules_before_gap s = type_demand s.sps s.header ∷ idr_num_demand s.header ∷ []

-- and after them, after such pictures.
abbrev pub rules_after_gap : PicturesBefore → CodedSlice → List Demand
rules_after_gap before s =
    id_demand before.newest_idr s.header
    ∷ count_demand (picture_of s.sps s.header ∷ before.counted) (first_bit s)
    ∷ qp_demand s.pps s.header
    ∷ list_demand (list_of s.header.kind.value (numbering_of s.sps s.header)
    (entered (is_idr s.header) before.prev_ref_frame_num (numbering_of s.sps s.header) before.held))
    ∷ []

-- The rules of a picture's first slice from its type on, after such pictures.
abbrev pub first_slice_rules : Depth → PicturesBefore → CodedSlice → Steps
first_slice_rules depth before s =
    needs (rules_before_gap s)
    >> gap_rules depth s before.prev_ref_frame_num before.held before.buffer
    >> needs (rules_after_gap before s)

-- ---- a later slice

-- The rules of a later slice from its type on, after such slices of its picture.
abbrev pub later_slice_rules : SlicesBefore → CodedSlice → List Demand
later_slice_rules before s =
    type_demand s.sps s.header
    ∷ same_type_demand before s.header
    ∷ idr_num_demand s.header
    ∷ qp_demand s.pps s.header
    ∷ list_demand (list_of s.header.kind.value (numbering_of s.sps s.header) before.held)
    ∷ marking_demand before.marking s.header
    ∷ []

-- ---- a slice: the end of the picture before it, its rules, and what is told of it

-- Where it stands and with which sets: it begins a picture, or is a later one.
abbrev pub standing_demands : Bool → Sps → Bool → Maps → ℕ → Header → List Demand
standing_demands true sps due maps bit h = idr_demand due bit h ∷ set_demand (is_idr h) maps sps h ∷ []
standing_demands false sps due maps bit h = set_demand false maps sps h ∷ []

-- how many macroblocks of its picture are coded before it
abbrev pub coded_before : Bool → List CodedPicture → ℕ
coded_before true pictures = 0
coded_before false pictures = length (coded_of pictures)

-- Its rules from its type on.
abbrev pub slice_rules : Depth → Bool → List CodedPicture → CodedSlice → Steps
slice_rules depth true pictures s = first_slice_rules depth (pictures_before pictures) s
slice_rules depth false pictures s = needs (later_slice_rules (slices_before pictures) s)

-- Those, and then it is told.
abbrev pub told_rules : Depth → Bool → List CodedPicture → CodedSlice → Steps
told_rules depth begins pictures s =
    slice_rules depth begins pictures s
    >> tells (Said (slice_call (joined_to begins s pictures) s) ∷ [])

-- All its rules, and then it is told. FirstMb is judged where slice data are read.
abbrev pub own_steps : Depth → Bool → Bool → Maps → List CodedPicture → CodedSlice → Steps
own_steps depth begins due maps pictures s =
    needs (standing_demands begins s.sps due maps (first_bit s) s.header)
    >> needs (first_mb_demands depth (coded_before begins pictures) s.header)
    >> told_rules depth begins pictures s

-- those of a slice with its sets; a header that was read has them
abbrev pub steps_by : Depth → Option (Pps × Sps) → History → NalUnit → Header → Steps
steps_by depth None before unit h = nothing
steps_by depth (Some sets) before unit h =
    own_steps depth (begins_at before h) (is_idr_due before) (maps_of before) (runs_of before) (with_sets unit h [] sets)

-- A slice after these units: where it begins a picture, the one before it ends first; then come its rules, and it is told.
abbrev pub slice_steps : Depth → History → NalUnit → Header → Steps
slice_steps depth before unit h =
    close_if (begins_at before h) depth before
    >> steps_by depth (sets_at before h) before unit h

-- ---- a unit: its first byte, the end of the picture before it, the structure in it, the rules on what that gives, and slice data

-- The syntax structure in a unit of this type, after these units; of a slice its header (7.3.1, table 7-1).
unfoldable pub content : Extent → ℕ → History → NalUnit → Grammar Content
content extent kind before unit =
    if kind == 7 then sps extent.target >>= (λ set. Done (contents.OfSps set))
    else (if kind == 8 then pps extent.target >>= (λ set. Done (contents.OfPps set))
    else other_content extent.depth kind before unit)

-- The rules on what is in a unit, beside its own syntax, and what the sink is told once they are met.
abbrev pub content_steps : Depth → History → NalUnit → Content → Steps
content_steps depth before unit (contents.OfSps set) = nothing
content_steps depth before unit (contents.OfPps set) = nothing
content_steps depth before unit (contents.OfSlice h macroblocks) = slice_steps depth before unit h
content_steps depth before unit contents.Passed = nothing

-- What stands after that in the unit: slice data after the header of a slice, from this bit on, where they are read.
abbrev pub data_course : Depth → History → NalUnit → Content → ℕ → Course Content
data_course depth before unit (contents.OfSps set) bit = Ends (contents.OfSps set)
data_course depth before unit (contents.OfPps set) bit = Ends (contents.OfPps set)
data_course depths.Units before unit (contents.OfSlice h macroblocks) bit = Ends (contents.OfSlice h macroblocks)
data_course depths.Headers before unit (contents.OfSlice h macroblocks) bit = Ends (contents.OfSlice h macroblocks)
data_course depths.Full before unit (contents.OfSlice h macroblocks) bit =
    Reads (body_of unit) bit (slice_data_at before unit h >>= (λ ms. Done (contents.OfSlice h ms))) (λ whole end. Ends whole)
data_course depth before unit contents.Passed bit = Ends contents.Passed

-- After the unit's first byte: its elements, the rules on what they give, and the rest.
abbrev pub content_then : Extent → History → NalUnit → (Content → ℕ → Course Content) → Course Content
content_then extent before unit rest =
    Reads (body_of unit) 0 (content extent (nal_unit_type (header_of unit)) before unit) (λ found bit.
    content_steps extent.depth before unit found
    >> rest found bit)

-- With slice data after a slice's header.
abbrev pub content_course : Extent → History → NalUnit → Course Content
content_course extent before unit = content_then extent before unit (data_course extent.depth before unit)

-- The course of a unit whose bytes are sound. A fault in its bytes is judged before all else (7.4.1, `AtBytes` of Verdict). Then come the rules
-- of its first byte; the sink is told of it; a picture ends before it; and last comes what is in it.
abbrev pub unit_then : Extent → History → NalUnit → (Content → ℕ → Course Content) → Course Content
unit_then extent before unit rest =
    needs (header_demands (8 * unit.from) (header_of unit))
    >> tells (Said (unit_call unit.from (header_of unit) (length unit.body)) ∷ [])
    >> close_if (ends_picture (nal_unit_type (header_of unit))) extent.depth before
    >> content_then extent before unit rest

-- To its end.
abbrev pub unit_course : Extent → History → NalUnit → Course Content
unit_course extent before unit = unit_then extent before unit (data_course extent.depth before unit)

-- Up to slice data, where memory may be wanting for a picture.
abbrev pub course_to_data : Extent → History → NalUnit → Course Content
course_to_data extent before unit = unit_then extent before unit (λ found bit. Ends found)

-- ---- the end of the input

-- The end of the input, at this bit: the last picture ends, there is one, and all frames that wait are written.
abbrev pub end_steps : Depth → History → ℕ → Steps
end_steps depth before bit =
    close_steps depth before
    >> needs (picture_demand depth before bit ∷ [])
    >> last_frames depth (runs_of before)
