-- What a survey tells of parameter sets. To be read beside the standard (7.3.2.1, 7.3.2.2, E.1.1).
use Rattle.std.specs.Prelude.{ℕ, ℤ, pos, ◌==◌, if◌then◌else◌, not, Bool, false, Option, None, Some, option_and_then, unwrap_or}
use Rattle.std.specs.Prelude.{List, [], ◌∷◌, ◌++◌, position, find, set}
use Rattle.h264_base.specs.declared.element_name.ElementName.{ElementName}
use Rattle.h264_base.specs.declared.element_name.ElementName.TheVariants as names
use Rattle.h264_bits.specs.Forms.{natural}
use Rattle.h264_bits.specs.Counts.{grown}
use Rattle.h264_pages.specs.declared.survey.sequence.AspectRatio.{AspectRatio}
use Rattle.h264_pages.specs.declared.survey.sequence.PictureSet.{PictureSet}
use Rattle.h264_pages.specs.declared.survey.sequence.Sequence.{Sequence}
use Rattle.h264_pages.specs.declared.survey.sequence.Timing.{Timing}
use Rattle.h264_pages.specs.declared.survey.sets.ParameterSet.{ParameterSet}
use Rattle.h264_pages.specs.declared.survey.sets.ParameterSet.TheVariants as kinds

-- a flag is set where it is not 0
abbrev pub is_set : ℕ → Bool
is_set v = not (v == 0)

-- the timing, with zeros where none is given yet
abbrev pub timing_of : Sequence → Timing
timing_of s = unwrap_or s.timing (record { num_units_in_tick = 0; time_scale = 0; fixed_frame_rate = false })

-- the sample aspect ratio, with zeros where none is given yet
abbrev pub ratio_of : Sequence → AspectRatio
ratio_of s = unwrap_or s.aspect_ratio (record { aspect_ratio_idc = 0; sar_width = 0; sar_height = 0 })

-- ---- a sequence parameter set after an element, whose value is v

-- of the sample aspect ratio (E.1.1)
unfoldable pub with_ratio : ElementName → ℕ → Sequence → Sequence
with_ratio names.AspectRatioIdc v s = record s { aspect_ratio = Some (record (ratio_of s) { aspect_ratio_idc = v }) }
with_ratio names.SarWidth v s = record s { aspect_ratio = Some (record (ratio_of s) { sar_width = v }) }
with_ratio names.SarHeight v s = record s { aspect_ratio = Some (record (ratio_of s) { sar_height = v }) }
with_ratio name v s = s

-- of the video usability information (E.1.1)
unfoldable pub with_usability : ElementName → ℕ → Sequence → Sequence
with_usability names.NumUnitsInTick v s = record s { timing = Some (record (timing_of s) { num_units_in_tick = v }) }
with_usability names.TimeScale v s = record s { timing = Some (record (timing_of s) { time_scale = v }) }
with_usability names.FixedFrameRateFlag v s = record s { timing = Some (record (timing_of s) { fixed_frame_rate = is_set v }) }
with_usability names.MaxNumReorderFrames v s = record s { max_num_reorder_frames = Some v }
with_usability names.MaxDecFrameBuffering v s = record s { max_dec_frame_buffering = Some v }
with_usability name v s = with_ratio name v s

-- of its size and cropping
unfoldable pub with_size : ElementName → ℕ → Sequence → Sequence
with_size names.PicWidthInMbsMinus1 v s = record s { width = grown v 1 }
with_size names.PicHeightInMapUnitsMinus1 v s = record s { height = grown v 1 }
with_size names.FrameCropLeftOffset v s = record s { cropping = record s.cropping { left = v } }
with_size names.FrameCropRightOffset v s = record s { cropping = record s.cropping { right = v } }
with_size names.FrameCropTopOffset v s = record s { cropping = record s.cropping { top = v } }
with_size names.FrameCropBottomOffset v s = record s { cropping = record s.cropping { bottom = v } }
with_size name v s = with_usability name v s

unfoldable pub with_element : ElementName → ℕ → Sequence → Sequence
with_element names.ProfileIdc v s = record s { profile_idc = v }
with_element names.ConstraintSet0Flag v s = record s { constraint_set0 = is_set v }
with_element names.ConstraintSet1Flag v s = record s { constraint_set1 = is_set v }
with_element names.ConstraintSet3Flag v s = record s { constraint_set3 = is_set v }
with_element names.LevelIdc v s = record s { level_idc = v }
with_element names.SeqParameterSetId v s = record s { seq_parameter_set_id = v }
with_element names.Log2MaxFrameNumMinus4 v s = record s { log2_max_frame_num = grown v 4 }
with_element names.PicOrderCntType v s = record s { pic_order_cnt_type = v }
with_element names.MaxNumRefFrames v s = record s { max_num_ref_frames = v }
with_element names.GapsInFrameNumValueAllowedFlag v s = record s { gaps_allowed = is_set v }
with_element name v s = with_size name v s

-- a picture parameter set after an element (7.3.2.2)
unfoldable pub with_picture_element : ElementName → ℤ → PictureSet → PictureSet
with_picture_element names.PicParameterSetId v s = record s { pic_parameter_set_id = natural v }
with_picture_element names.SeqParameterSetId v s = record s { seq_parameter_set_id = natural v }
with_picture_element names.PicInitQpMinus26 v s = record s { pic_init_qp_minus26 = v }
with_picture_element name v s = s

abbrev pub with_set_element : ElementName → ℤ → ParameterSet → ParameterSet
with_set_element name v (kinds.Sequence s) = kinds.Sequence (with_element name (natural v) s)
with_set_element name v (kinds.Picture s) = kinds.Picture (with_picture_element name v s)

-- ---- before the first element

abbrev pub no_sequence : Sequence
no_sequence = record {
  seq_parameter_set_id = 0;
  profile_idc = 0;
  constraint_set0 = false;
  constraint_set1 = false;
  constraint_set3 = false;
  level_idc = 0;
  log2_max_frame_num = 0;
  pic_order_cnt_type = 0;
  max_num_ref_frames = 0;
  gaps_allowed = false;
  width = 0;
  height = 0;
  cropping = record { left = 0; right = 0; top = 0; bottom = 0 };
  aspect_ratio = None;
  timing = None;
  max_num_reorder_frames = None;
  max_dec_frame_buffering = None;
}

abbrev pub no_picture_set : PictureSet
no_picture_set = record { pic_parameter_set_id = 0; seq_parameter_set_id = 0; pic_init_qp_minus26 = pos 0 }

-- the set that a unit of this type holds (table 7-1)
abbrev pub begun : (nal_unit_type : ℕ) → Option ParameterSet
begun nal_unit_type =
    if nal_unit_type == 7 then Some (kinds.Sequence no_sequence)
    else if nal_unit_type == 8 then Some (kinds.Picture no_picture_set)
    else None

-- ---- the sets that stand

abbrev pub has_sequence_id : ℕ → Sequence → Bool
has_sequence_id id s = s.seq_parameter_set_id == id

abbrev pub has_picture_id : ℕ → PictureSet → Bool
has_picture_id id s = s.pic_parameter_set_id == id

-- a set in this place, or after the others
abbrev pub put : {A : Type 0} → (place : Option ℕ) → A → List A → List A
put None s sets = sets ++ s ∷ []
put (Some k) s sets = set sets k s

-- A set takes the place of the first with its id, or comes after the others.
abbrev pub put_sequence : Sequence → List Sequence → List Sequence
put_sequence s sets = put (position (has_sequence_id s.seq_parameter_set_id) sets) s sets

abbrev pub put_picture_set : PictureSet → List PictureSet → List PictureSet
put_picture_set s sets = put (position (has_picture_id s.pic_parameter_set_id) sets) s sets

-- Where the next unit begins, the set that was read is taken up.
abbrev pub kept_sequences : (read : Option ParameterSet) → List Sequence → List Sequence
kept_sequences (Some (kinds.Sequence s)) sets = put_sequence s sets
kept_sequences read sets = sets

abbrev pub kept_picture_sets : (read : Option ParameterSet) → List PictureSet → List PictureSet
kept_picture_sets (Some (kinds.Picture s)) sets = put_picture_set s sets
kept_picture_sets read sets = sets

-- the set of an id
abbrev pub find_sequence : ℕ → List Sequence → Option Sequence
find_sequence id sets = find (has_sequence_id id) sets

abbrev pub find_picture_set : ℕ → List PictureSet → Option PictureSet
find_picture_set id sets = find (has_picture_id id) sets

-- the sequence parameter set that a picture parameter set of this id names
abbrev pub find_sequence_of : ℕ → List PictureSet → List Sequence → Option Sequence
find_sequence_of id picture_sets sequences =
    option_and_then (λ (s : PictureSet). find_sequence s.seq_parameter_set_id sequences) (find_picture_set id picture_sets)
