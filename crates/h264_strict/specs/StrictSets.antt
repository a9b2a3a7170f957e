-- What a sequence parameter set says to the further rules, and the rules on its values (7.4.2.1.1, A.2, A.3.1, E.2.1). To be read beside the standard.
use Rattle.std.specs.Prelude.{ℕ, ◌==◌, ◌&&◌, ◌||◌, Bool, true, false, not, nat_lt, nat_le, if◌then◌else◌, Option, None, Some}
use Rattle.h264_base.specs.declared.element_name.ElementName.{ElementName}
use Rattle.h264_base.specs.declared.element_name.ElementName.TheVariants as names
use Rattle.h264_bits.specs.Counts.{grown}
use Rattle.h264_strict.specs.StrictLevels.{max_mbps, max_vectors, bit_limits}
use Rattle.h264_strict.specs.StrictRatio.{is_reducible}
use Rattle.h264_strict.specs.StrictRules.{broken_if}
use Rattle.h264_strict.specs.StrictSchedules.{times, no_schedules, rises_not, rises, none_keeps, schedules_after}
use Rattle.h264_strict.specs.declared.strict_rule.StrictRule.{StrictRule}
use Rattle.h264_strict.specs.declared.strict_rule.StrictRule.TheVariants as rules
use Rattle.h264_strict.specs.declared.strict_sets.SetFacts.{SetFacts}

-- a set of which profile_idc alone was read, after sets of this id
abbrev pub set_of_profile : Option ℕ → Bool → ℕ → SetFacts
set_of_profile id is_alone profile_idc = record {
  id = id;
  is_alone = is_alone;
  is_read = true;
  profile_idc = profile_idc;
  promises_baseline = profile_idc == 66;
  promises_main = profile_idc == 77;
  promises_extended = profile_idc == 88;
  constraint_set3_flag = false;
  level_idc = 0;
  max_num_ref_frames = 0;
  sar_width = 0;
  max_bytes_per_pic_denom = 0;
  width = 0;
  size = 0;
  num_units_in_tick = 0;
  time_scale = 0;
  fixed_frame_rate_flag = false;
  pic_struct_present_flag = false;
  keeps_order = false;
  schedules = no_schedules;
}

-- before the first set
abbrev pub no_set : SetFacts
no_set = record (set_of_profile None true 0) { is_read = false }

-- sets came before, and have another id
abbrev pub is_other : Option ℕ → ℕ → Bool
is_other None other = false
is_other (Some id) other = not (id == other)

-- seq_parameter_set_id of a sequence parameter set; that of a picture parameter set changes nothing
abbrev pub with_id : SetFacts → ℕ → SetFacts
with_id set id = if set.is_read then record set { id = Some id; is_alone = set.is_alone && not (is_other set.id id) } else set

-- a set after one more element; a picture parameter set begins with pic_parameter_set_id
unfoldable pub set_after : SetFacts → ElementName → ℕ → SetFacts
set_after set names.ProfileIdc v = set_of_profile set.id set.is_alone v
set_after set names.ConstraintSet0Flag v = record set { promises_baseline = set.promises_baseline || not (v == 0) }
set_after set names.ConstraintSet1Flag v = record set { promises_main = set.promises_main || not (v == 0) }
set_after set names.ConstraintSet2Flag v = record set { promises_extended = set.promises_extended || not (v == 0) }
set_after set names.ConstraintSet3Flag v = record set { constraint_set3_flag = not (v == 0) }
set_after set names.LevelIdc v = record set { level_idc = v }
set_after set names.SeqParameterSetId v = with_id set v
set_after set names.PicParameterSetId v = record set { is_read = false }
set_after set names.MaxNumRefFrames v = record set { max_num_ref_frames = v }
set_after set names.PicWidthInMbsMinus1 v = record set { width = grown v 1 }
set_after set names.PicHeightInMapUnitsMinus1 v = record set { size = times set.width (grown v 1) }
set_after set names.SarWidth v = record set { sar_width = v }
set_after set names.NumUnitsInTick v = record set { num_units_in_tick = v }
set_after set names.TimeScale v = record set { time_scale = v }
set_after set names.FixedFrameRateFlag v = record set { fixed_frame_rate_flag = not (v == 0) }
set_after set names.PicStructPresentFlag v = record set { pic_struct_present_flag = not (v == 0) }
set_after set names.MaxBytesPerPicDenom v = record set { max_bytes_per_pic_denom = v }
set_after set names.MaxNumReorderFrames v = record set { keeps_order = v == 0 }
set_after set name v = record set { schedules = schedules_after set.level_idc set.constraint_set3_flag set.schedules name v }

-- ---- values (7.4.2.1.1, E.2.1)

unfoldable pub by_value : ElementName → ℕ → Option StrictRule
by_value names.ReservedZero2bits v = broken_if (not (v == 0)) rules.ReservedBits
by_value names.AspectRatioIdc v = broken_if (nat_lt 16 v && nat_lt v 255) rules.AspectRatio
by_value names.VideoFormat v = broken_if (nat_lt 5 v) rules.VideoFormat
by_value names.ColourPrimaries v = broken_if ((v == 0 || v == 3) || nat_lt 12 v && not (v == 22)) rules.ColourPrimaries
by_value names.TransferCharacteristics v = broken_if ((v == 0 || v == 3) || nat_lt 18 v) rules.TransferCharacteristics
by_value names.MatrixCoefficients v = broken_if ((v == 0 || v == 3) || nat_lt 14 v) rules.MatrixCoefficients
by_value names.ChromaSampleLocTypeTopField v = broken_if (nat_lt 5 v) rules.ChromaLocation
by_value names.ChromaSampleLocTypeBottomField v = broken_if (nat_lt 5 v) rules.ChromaLocation
by_value names.NumUnitsInTick v = broken_if (v == 0) rules.Timing
by_value names.TimeScale v = broken_if (v == 0) rules.Timing
by_value names.MaxBytesPerPicDenom v = broken_if (nat_lt 16 v) rules.Restriction
by_value names.MaxBitsPerMbDenom v = broken_if (nat_lt 16 v) rules.Restriction
by_value names.Log2MaxMvLengthHorizontal v = broken_if (nat_lt 16 v) rules.Restriction
by_value names.Log2MaxMvLengthVertical v = broken_if (nat_lt 16 v) rules.Restriction
by_value name v = None

-- ---- values that others bear on

-- Extended asks for direct_8x8_inference_flag 1 (A.2.3), and Main from level 3 on (table A-4).
abbrev pub needs_inference : SetFacts → Bool
needs_inference set = set.promises_extended || set.promises_main && nat_le 30 set.level_idc

unfoldable pub by_set : SetFacts → ElementName → ℕ → Option StrictRule
by_set set names.ConstraintSet4Flag v = broken_if ((set.profile_idc == 66) && not (v == 0)) rules.ReservedConstraint
by_set set names.ConstraintSet5Flag v = broken_if ((set.profile_idc == 66) && not (v == 0)) rules.ReservedConstraint
by_set set names.LevelIdc v = broken_if ((v == 9) || set.constraint_set3_flag && not (v == 11)) rules.Level1b
by_set set names.Direct8x8InferenceFlag v = broken_if ((v == 0) && needs_inference set) rules.DirectInference
by_set set names.SarHeight v = broken_if (is_reducible set.sar_width v) rules.CommonFactor
by_set set names.LowDelayHrdFlag v = broken_if (not (v == 0) && set.fixed_frame_rate_flag) rules.LowDelay
by_set set names.BitRateValueMinus1 v = broken_if (rises_not set.schedules.last_rate v) rules.ScheduleOrder
by_set set names.CpbSizeValueMinus1 v = broken_if (rises set.schedules.last_size v) rules.ScheduleOrder
by_set set name v = by_value name v

-- No schedule keeps to MaxBR and MaxCPB (A.3.1). It is named at cpb_size_value_minus1 of the last schedule, with which that is known.
unfoldable pub by_limits : SetFacts → ElementName → ℕ → Option StrictRule
by_limits set names.CpbSizeValueMinus1 v =
    broken_if (none_keeps (bit_limits set.level_idc set.constraint_set3_flag) set.schedules v) rules.ScheduleLimits
by_limits set name v = None

-- ---- the active set, which is known where all sets so far have one id

-- no frame is held for reference
abbrev pub holds_no_frame : SetFacts → Bool
holds_no_frame set = set.is_alone && (set.max_num_ref_frames == 0)

-- it promises what Baseline asks, which leaves weighted_pred_flag out (A.2.1)
abbrev pub is_baseline : SetFacts → Bool
is_baseline set = set.is_alone && set.promises_baseline

-- frames are output as they are decoded (E.2.1)
abbrev pub is_in_order : SetFacts → Bool
is_in_order set = set.is_alone && set.keeps_order

-- Each frame lasts 2 * num_units_in_tick / time_scale seconds (E.2.1): no message can say that a frame is repeated.
abbrev pub is_timed : SetFacts → Bool
is_timed set = set.fixed_frame_rate_flag && (not set.pic_struct_present_flag && not (set.num_units_in_tick == 0))

-- That is less than PicSizeInMbs / MaxMBPS, or less than 1/172 of a second (A.3.1).
abbrev pub outruns : SetFacts → Option ℕ → Bool
outruns set None = false
outruns set (Some mbps) =
    nat_lt (times (times set.num_units_in_tick 2) mbps) (times set.size set.time_scale)
    || nat_lt (times (times set.num_units_in_tick 2) 172) set.time_scale

abbrev pub is_too_fast : SetFacts → Bool
is_too_fast set = set.is_alone && (is_timed set && outruns set (max_mbps set.level_idc set.constraint_set3_flag))

-- So many bytes of a picture are more than (PicSizeInMbs * RawMbBits) / (8 * max_bytes_per_pic_denom), where that is told and not 0 (E.2.1). RawMbBits is
-- 3072 with 8 bits a sample in 4:2:0.
abbrev pub are_too_many_bytes : SetFacts → ℕ → Bool
are_too_many_bytes set bytes =
    set.is_alone
    && (not (set.max_bytes_per_pic_denom == 0) && nat_lt (times set.size 3072) (times (times bytes 8) set.max_bytes_per_pic_denom))

-- MaxMvsPer2Mb
abbrev pub vector_limit : SetFacts → Option ℕ
vector_limit set = if set.is_alone then max_vectors set.level_idc else None
