-- A working form. Parts of the structure that stands whole in Sps: what the functions meet that read a structure part by part. `sps_from_size` is the
-- rest of it, from the size on.
use Rattle.std.specs.Prelude.{ℕ, ◌+◌, ◌*◌, nat_le, nat_lt, ◌&&◌, Bool}
use Rattle.h264_base.specs.declared.element_name.ElementName.{ElementName}
use Rattle.h264_base.specs.declared.element_name.ElementName.TheVariants.{FrameMbsOnlyFlag, Direct8x8InferenceFlag, FrameCroppingFlag, VuiParametersPresentFlag}
use Rattle.h264_base.specs.declared.rule.Rule.TheVariants.{Crop}
use Rattle.h264_base.specs.Word.{Unsigned}
use Rattle.h264_base.specs.Grammar.{Grammar, Done, ◌>>=◌, element, check, trailing}
use Rattle.h264_tables.specs.declared.level.Limits.{Limits}
use Rattle.h264_bits.specs.Forms.{natural, flag, bits_must_be}
use Rattle.h264_sps.specs.declared.read.Start.{Start}
use Rattle.h264_sps.specs.declared.sps.FrameSize.{FrameSize as Size}
use Rattle.h264_sps.specs.declared.sps.Sps.{Sps}
use Rattle.h264_sps.specs.Sps.{max_dpb_frames, frame_size, frame_cropping}
use Rattle.h264_sps.specs.Vui.{flagged, vui}

-- the offsets at two sides of a frame of so many macroblocks from one to the other, which leave something
unfoldable pub crop_offsets : ElementName → ElementName → ℕ → Grammar (ℕ × ℕ)
crop_offsets first second macroblocks = do
  a ← element first Unsigned
  b ← element second Unsigned
  _ ← check Crop b.bit (nat_lt (2 * (natural a.value + natural b.value)) (16 * macroblocks))
  Done (natural a.value, natural b.value)

-- the level allows a frame of this size, and its picture buffer so many reference frames
abbrev pub is_size_allowed : Limits → ℕ → Size → Bool
is_size_allowed limits max_num_ref_frames size = nat_le (size.width * size.height) limits.max_fs
    && (nat_le (size.width * size.width) (8 * limits.max_fs)
    && (nat_le (size.height * size.height) (8 * limits.max_fs) && nat_le max_num_ref_frames (max_dpb_frames limits size)))

unfoldable pub sps_from_size : Start → Grammar Sps
sps_from_size start = do
  size ← frame_size start.front.level.limits start.max_num_ref_frames
  _ ← bits_must_be FrameMbsOnlyFlag 1 1
  direct ← flag Direct8x8InferenceFlag
  crop ← flagged (flag FrameCroppingFlag) (frame_cropping size)
  usability ← flagged (flag VuiParametersPresentFlag) (vui start.max_num_ref_frames (max_dpb_frames start.front.level.limits size))
  _ ← trailing
  Done (record {
    profile_idc = start.front.profile_idc;
    constraint_set_flags = start.front.flags;
    reserved_zero_2bits = start.front.reserved;
    level_idc = start.front.level.level_idc;
    seq_parameter_set_id = start.seq_parameter_set_id;
    log2_max_frame_num = start.log2_max_frame_num;
    count_type = start.count_type;
    max_num_ref_frames = start.max_num_ref_frames;
    gaps_in_frame_num_value_allowed_flag = start.gaps_in_frame_num_value_allowed_flag;
    frame_size = size;
    direct_8x8_inference_flag = direct;
    frame_cropping = crop;
    vui = usability;
  })
