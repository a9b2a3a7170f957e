-- The syntax of messages whose content needs no parameter set, and the ranges of its values (D.1, D.2). To be read beside the standard.
use Rattle.std.specs.Prelude.{ℕ, ◌+◌, ◌*◌, ◌==◌, ◌&&◌, ◌||◌, Bool, not, nat_lt, nat_le, if◌then◌else◌}
use Rattle.h264_base.specs.Word.{Signed}
use Rattle.h264_strict.specs.SeiPart.{Part, ◌>>=◌, give, must, element, u, ue, u_to, ue_to, when, times}
use Rattle.h264_strict.specs.declared.sei.content.Group.{Group}
use Rattle.h264_strict.specs.declared.sei.content.Group.TheVariants as groups

-- ---- what several messages have

-- an identifying number; 256 to 511 and those from 2^31 on are reserved
abbrev pub identifier : Part (Unit {0})
identifier = do
  id ← ue
  must (nat_lt id 256 || nat_le 512 id && nat_lt id 2147483648)

-- a repetition period
abbrev pub repetition_period : Part (Unit {0})
repetition_period = do
  _ ← ue_to 16384
  give tt

-- below any MaxFrameNum
abbrev pub frame_count : Part (Unit {0})
frame_count = do
  _ ← ue_to 65535
  give tt

-- bits that may have any value
abbrev pub any : ℕ → Part (Unit {0})
any n = do
  _ ← u n
  give tt

-- sub_seq_layer_num and sub_seq_id
abbrev pub sub_sequence : Part (Unit {0})
sub_sequence = do
  _ ← ue_to 255
  _ ← ue_to 65535
  give tt

-- accurate_statistics_flag; average_bit_rate and average_frame_rate, each of 16 bits
abbrev pub statistics : Part (Unit {0})
statistics = do
  _ ← u 1
  any 32

-- the sub-sequence that is referred to, and ref_sub_seq_direction
abbrev pub sub_sequence_reference : Part (Unit {0})
sub_sequence_reference = do
  _ ← sub_sequence
  any 1

-- an offset of a rectangle's side, se(v)
abbrev pub offset : Part (Unit {0})
offset = do
  _ ← element Signed
  give tt

-- what is repeated
unfoldable pub group : Group → Part (Unit {0})
group groups.Offset = offset
group groups.Statistics = statistics
group groups.Reference = sub_sequence_reference
group groups.Word = any 32

-- ---- the messages

-- pan_scan_cnt_minus1; the four offsets of each rectangle; pan_scan_rect_repetition_period
abbrev pub pan_scan_rects : Part (Unit {0})
pan_scan_rects = do
  pan_scan_cnt_minus1 ← ue_to 2
  _ ← times (4 * (pan_scan_cnt_minus1 + 1)) (group groups.Offset)
  repetition_period

abbrev pub pan_scan_rect : Part (Unit {0})
pan_scan_rect = do
  _ ← identifier
  pan_scan_rect_cancel_flag ← u 1
  when (pan_scan_rect_cancel_flag == 0) pan_scan_rects

-- recovery_frame_cnt; exact_match_flag and broken_link_flag; changing_slice_group_idc
abbrev pub recovery_point : Part (Unit {0})
recovery_point = do
  _ ← frame_count
  _ ← u 2
  _ ← u_to 2 2
  give tt

abbrev pub second_scene : ℕ → Part (Unit {0})
second_scene scene_id = do
  second_scene_id ← ue
  must (not (second_scene_id == scene_id))

abbrev pub scene : Part (Unit {0})
scene = do
  scene_id ← ue
  scene_transition_type ← ue_to 6
  when (nat_lt 3 scene_transition_type) (second_scene scene_id)

abbrev pub scene_info : Part (Unit {0})
scene_info = do
  scene_info_present_flag ← u 1
  when (scene_info_present_flag == 1) scene

-- first_ref_pic_flag, leading_non_ref_pic_flag and last_pic_flag are the 3 bits
abbrev pub sub_seq_info : Part (Unit {0})
sub_seq_info = do
  _ ← sub_sequence
  _ ← u 3
  sub_seq_frame_num_flag ← u 1
  when (sub_seq_frame_num_flag == 1) frame_count

abbrev pub sub_seq_layer_characteristics : Part (Unit {0})
sub_seq_layer_characteristics = do
  num_sub_seq_layers_minus1 ← ue_to 255
  times (num_sub_seq_layers_minus1 + 1) (group groups.Statistics)

-- sub_seq_duration is the word
abbrev pub sub_seq_rates : Part (Unit {0})
sub_seq_rates = do
  duration_flag ← u 1
  _ ← when (duration_flag == 1) (any 32)
  average_rate_flag ← u 1
  when (average_rate_flag == 1) statistics

abbrev pub sub_seq_characteristics : Part (Unit {0})
sub_seq_characteristics = do
  _ ← sub_sequence
  _ ← sub_seq_rates
  num_referenced_subseqs ← ue_to 255
  times num_referenced_subseqs (group groups.Reference)

abbrev pub progressive_refinement_start : Part (Unit {0})
progressive_refinement_start = do
  _ ← ue
  frame_count

-- a number that may be any: snapshot_id, and progressive_refinement_id at the end
abbrev pub number : Part (Unit {0})
number = do
  _ ← ue
  give tt

-- display_prior_to_deblocking_preferred_flag and dec_frame_buffering_constraint_flag are the 2 bits
abbrev pub deblocking_preference : Part (Unit {0})
deblocking_preference = do
  _ ← u 2
  repetition_period

abbrev pub deblocking_filter_display_preference : Part (Unit {0})
deblocking_filter_display_preference = do
  deblocking_display_preference_cancel_flag ← u 1
  when (deblocking_display_preference_cancel_flag == 0) deblocking_preference

-- top_field_is_left_view_flag, or current_frame_is_left_view_flag and next_frame_is_second_view_flag; then left_view_self_contained_flag and
-- right_view_self_contained_flag
abbrev pub stereo_video_info : Part (Unit {0})
stereo_video_info = do
  field_views_flag ← u 1
  any (if field_views_flag == 1 then 3 else 4)

-- quincunx sampling is that of type 0, and not of type 5
abbrev pub fits_sampling : (arrangement_type quincunx_sampling_flag : ℕ) → Bool
fits_sampling arrangement_type quincunx_sampling_flag =
    not (arrangement_type == 0 && quincunx_sampling_flag == 0) && not (arrangement_type == 5 && quincunx_sampling_flag == 1)

-- a frame is flipped only side by side or top and bottom, and which frame this is is told of type 5 alone
abbrev pub fits_flags : (arrangement_type spatial_flipping_flag frame0_flipped_flag current_frame_is_frame0_flag : ℕ) → Bool
fits_flags arrangement_type spatial frame0 current =
    (arrangement_type == 3 || arrangement_type == 4 || spatial == 0) && (spatial == 1 || frame0 == 0) && (arrangement_type == 5 || current == 0)

-- after current_frame_is_frame0_flag come frame0_self_contained_flag and frame1_self_contained_flag
abbrev pub arrangement_flags : ℕ → Part (Unit {0})
arrangement_flags arrangement_type = do
  spatial_flipping_flag ← u 1
  frame0_flipped_flag ← u 1
  field_views_flag ← u 1
  current_frame_is_frame0_flag ← u 1
  _ ← u 2
  must (fits_flags arrangement_type spatial_flipping_flag frame0_flipped_flag current_frame_is_frame0_flag)

-- the four places of the grid, each of 4 bits; frame_packing_arrangement_reserved_byte
abbrev pub arrangement_end : Bool → Part (Unit {0})
arrangement_end has_grid = do
  _ ← when has_grid (any 16)
  _ ← u_to 8 0
  repetition_period

abbrev pub arrangement : Part (Unit {0})
arrangement = do
  frame_packing_arrangement_type ← u_to 7 7
  quincunx_sampling_flag ← u 1
  _ ← must (fits_sampling frame_packing_arrangement_type quincunx_sampling_flag)
  content_interpretation_type ← u_to 6 2
  _ ← arrangement_flags frame_packing_arrangement_type
  arrangement_end (quincunx_sampling_flag == 0 && not (frame_packing_arrangement_type == 5))

-- the last bit is frame_packing_arrangement_extension_flag
abbrev pub frame_packing_arrangement : Part (Unit {0})
frame_packing_arrangement = do
  _ ← identifier
  frame_packing_arrangement_cancel_flag ← u 1
  _ ← when (frame_packing_arrangement_cancel_flag == 0) arrangement
  _ ← u_to 1 0
  give tt

-- hor_flip, ver_flip and anticlockwise_rotation are the 18 bits, and the last bit is display_orientation_extension_flag
abbrev pub orientation : Part (Unit {0})
orientation = do
  _ ← u 18
  _ ← repetition_period
  _ ← u_to 1 0
  give tt

abbrev pub display_orientation : Part (Unit {0})
display_orientation = do
  display_orientation_cancel_flag ← u 1
  when (display_orientation_cancel_flag == 0) orientation

-- a value of table E-4 that is not reserved
abbrev pub alternative_transfer_characteristics : Part (Unit {0})
alternative_transfer_characteristics = do
  preferred_transfer_characteristics ← u 8
  must (not (preferred_transfer_characteristics == 0 || preferred_transfer_characteristics == 3) && nat_le preferred_transfer_characteristics 18)

-- ---- by payloadType

-- payloadType of messages whose content is read by a syntax
abbrev pub has_syntax : ℕ → Bool
has_syntax kind =
    (kind == 2) || (kind == 6) || nat_le 9 kind && nat_le kind 17 || (kind == 20) || (kind == 21) || (kind == 45) || (kind == 47)
    || (kind == 137) || (kind == 144) || (kind == 147)

-- sub-sequences, freezes, snapshots and refinements
abbrev pub early_content : ℕ → Part (Unit {0})
early_content kind =
    if kind == 10 then sub_seq_info
    else (if kind == 11 then sub_seq_layer_characteristics
    else (if kind == 12 then sub_seq_characteristics
    else (if kind == 13 then repetition_period
    else (if kind == 14 then give tt
    else (if kind == 16 then progressive_refinement_start else number)))))

-- those with another payloadType; of mastering_display_colour_volume() and content_light_level_info() each value may be any
abbrev pub content : ℕ → Part (Unit {0})
content kind =
    if kind == 2 then pan_scan_rect
    else (if kind == 6 then recovery_point
    else (if kind == 9 then scene_info
    else (if kind == 20 then deblocking_filter_display_preference
    else (if kind == 21 then stereo_video_info
    else (if kind == 45 then frame_packing_arrangement
    else (if kind == 47 then display_orientation
    else (if kind == 137 then times 6 (group groups.Word)
    else (if kind == 144 then any 32
    else (if kind == 147 then alternative_transfer_characteristics else early_content kind)))))))))
