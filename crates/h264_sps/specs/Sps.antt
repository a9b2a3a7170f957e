-- seq_parameter_set_data() (7.3.2.1.1), with the rules on its values (7.4.2.1.1, A.2, A.3). To be read beside the standard.
use Rattle.std.specs.Prelude.{ℕ, ◌+◌, ◌*◌, ◌/◌, min, nat_le, nat_lt, ◌==◌, ◌&&◌, ◌||◌, Bool, not, unwrap_or}
use Rattle.std.specs.Option.{is_some}
use Rattle.h264_base.specs.declared.mode.Target.{Target}
use Rattle.h264_base.specs.declared.mode.Target.TheVariants as targets
use Rattle.h264_base.specs.declared.element_name.ElementName.TheVariants.{ProfileIdc, ConstraintSet0Flag, ConstraintSet1Flag, ConstraintSet2Flag}
use Rattle.h264_base.specs.declared.element_name.ElementName.TheVariants.{ConstraintSet3Flag, ConstraintSet4Flag, ConstraintSet5Flag, ReservedZero2bits}
use Rattle.h264_base.specs.declared.element_name.ElementName.TheVariants.{LevelIdc, SeqParameterSetId, Log2MaxFrameNumMinus4, MaxNumRefFrames}
use Rattle.h264_base.specs.declared.element_name.ElementName.TheVariants.{GapsInFrameNumValueAllowedFlag, PicWidthInMbsMinus1, PicHeightInMapUnitsMinus1}
use Rattle.h264_base.specs.declared.element_name.ElementName.TheVariants.{FrameMbsOnlyFlag, Direct8x8InferenceFlag, FrameCroppingFlag, FrameCropLeftOffset}
use Rattle.h264_base.specs.declared.element_name.ElementName.TheVariants.{FrameCropRightOffset, FrameCropTopOffset, FrameCropBottomOffset}
use Rattle.h264_base.specs.declared.element_name.ElementName.TheVariants.{VuiParametersPresentFlag}
use Rattle.h264_base.specs.declared.rule.Rule.TheVariants.{Profile, Range, FrameSize, Crop}
use Rattle.h264_base.specs.declared.stop.Feature.TheVariants.{Level6}
use Rattle.h264_base.specs.Word.{Fixed, Unsigned}
use Rattle.h264_base.specs.Grammar.{Grammar, Done, ◌>>=◌, element, check, support, trailing}
use Rattle.h264_tables.specs.declared.level.Limits.{Limits}
use Rattle.h264_tables.specs.Level.{limits_of}
use Rattle.h264_bits.specs.Forms.{natural, unsigned_to, bits, flag, bits_must_be}
use Rattle.h264_sps.specs.declared.sps.ConstraintSetFlags.{ConstraintSetFlags}
use Rattle.h264_sps.specs.declared.sps.FrameSize.{FrameSize as Size}
use Rattle.h264_sps.specs.declared.sps.FrameCropping.{FrameCropping}
use Rattle.h264_sps.specs.declared.sps.Sps.{Sps}
use Rattle.h264_sps.specs.Counting.{counting}
use Rattle.h264_sps.specs.Vui.{flagged, vui}

-- Baseline, or Main or Extended where the stream says that a Baseline decoder decodes it too (A.2.1); Main itself where the target has its tools (A.2.2)
abbrev pub is_judged_profile : Target → ℕ → Bool → Bool
is_judged_profile targets.Baseline profile_idc set0 = profile_idc == 66 || (profile_idc == 77 || profile_idc == 88) && set0
is_judged_profile targets.MainIP profile_idc set0 = profile_idc == 66 || profile_idc == 77 || profile_idc == 88 && set0

unfoldable pub constraint_set_flags : Grammar ConstraintSetFlags
constraint_set_flags = do
  set0 ← flag ConstraintSet0Flag
  set1 ← flag ConstraintSet1Flag
  set2 ← flag ConstraintSet2Flag
  set3 ← flag ConstraintSet3Flag
  set4 ← flag ConstraintSet4Flag
  set5 ← flag ConstraintSet5Flag
  Done (record { set0 = set0; set1 = set1; set2 = set2; set3 = set3; set4 = set4; set5 = set5 })

-- level_idc, and what the level allows
pub record LevelNamed : Type 0 where
  pub level_idc : ℕ
  pub limits : Limits

abbrev pub no_limits : Limits
no_limits = record { max_fs = 0; max_dpb_mbs = 0; max_vector = 0 }

-- levels 6, 6.1 and 6.2
abbrev pub is_level_6 : ℕ → Bool
is_level_6 level_idc = level_idc == 60 || level_idc == 61 || level_idc == 62

unfoldable pub level : Bool → Grammar LevelNamed
level set3 = do
  e ← element LevelIdc (Fixed 8)
  _ ← support Level6 e.bit (not (is_level_6 (natural e.value)))
  _ ← check Range e.bit (is_some (limits_of (natural e.value) set3))
  Done (record { level_idc = natural e.value; limits = unwrap_or (limits_of (natural e.value) set3) no_limits })

-- the profile, the flags and the level
pub record ProfileAndLevel : Type 0 where
  pub profile_idc : ℕ
  pub flags : ConstraintSetFlags
  pub reserved : ℕ
  pub named : LevelNamed

unfoldable pub profile_and_level : Target → Grammar ProfileAndLevel
profile_and_level target = do
  profile ← element ProfileIdc (Fixed 8)
  flags ← constraint_set_flags
  _ ← check Profile profile.bit (is_judged_profile target (natural profile.value) flags.set0)
  reserved ← bits ReservedZero2bits 2
  named ← level flags.set3
  Done (record { profile_idc = natural profile.value; flags = flags; reserved = reserved; named = named })

-- how many frames of this size the level's picture buffer holds: MaxDpbFrames (A.3.1)
abbrev pub max_dpb_frames : Limits → Size → ℕ
max_dpb_frames limits size = min (limits.max_dpb_mbs / (size.width * size.height)) 16

-- what the level allows of the size, judged at the height
unfoldable pub fits : Limits → ℕ → ℕ → Size → Grammar Size
fits limits max_num_ref_frames bit size = do
  _ ← check FrameSize bit (nat_le (size.width * size.height) limits.max_fs)
  _ ← check FrameSize bit (nat_le (size.width * size.width) (8 * limits.max_fs))
  _ ← check FrameSize bit (nat_le (size.height * size.height) (8 * limits.max_fs))
  _ ← check FrameSize bit (nat_le max_num_ref_frames (max_dpb_frames limits size))
  Done size

unfoldable pub frame_size : Limits → ℕ → Grammar Size
frame_size limits max_num_ref_frames = do
  width ← element PicWidthInMbsMinus1 Unsigned
  height ← element PicHeightInMapUnitsMinus1 Unsigned
  fits limits max_num_ref_frames height.bit (record { width = natural width.value + 1; height = natural height.value + 1 })

-- Something is left of each row and of each column: 16 luma samples a macroblock, of which twice the offsets go.
unfoldable pub frame_cropping : Size → Grammar FrameCropping
frame_cropping size = do
  left ← element FrameCropLeftOffset Unsigned
  right ← element FrameCropRightOffset Unsigned
  _ ← check Crop right.bit (nat_lt (2 * (natural left.value + natural right.value)) (16 * size.width))
  top ← element FrameCropTopOffset Unsigned
  bottom ← element FrameCropBottomOffset Unsigned
  _ ← check Crop bottom.bit (nat_lt (2 * (natural top.value + natural bottom.value)) (16 * size.height))
  Done (record { left = natural left.value; right = natural right.value; top = natural top.value; bottom = natural bottom.value })

unfoldable pub sps : Target → Grammar Sps
sps target = do
  front ← profile_and_level target
  id ← unsigned_to SeqParameterSetId 31
  log2_minus4 ← unsigned_to Log2MaxFrameNumMinus4 12
  count_type ← counting
  refs ← unsigned_to MaxNumRefFrames 16
  gaps ← flag GapsInFrameNumValueAllowedFlag
  size ← frame_size front.named.limits refs
  _ ← bits_must_be FrameMbsOnlyFlag 1 1
  direct ← flag Direct8x8InferenceFlag
  crop ← flagged (flag FrameCroppingFlag) (frame_cropping size)
  usability ← flagged (flag VuiParametersPresentFlag) (vui refs (max_dpb_frames front.named.limits size))
  _ ← trailing
  Done (record {
    profile_idc = front.profile_idc;
    constraint_set_flags = front.flags;
    reserved_zero_2bits = front.reserved;
    level_idc = front.named.level_idc;
    seq_parameter_set_id = id;
    log2_max_frame_num = log2_minus4 + 4;
    count_type = count_type;
    max_num_ref_frames = refs;
    gaps_in_frame_num_value_allowed_flag = gaps;
    frame_size = size;
    direct_8x8_inference_flag = direct;
    frame_cropping = crop;
    vui = usability;
  })
