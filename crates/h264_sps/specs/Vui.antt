-- vui_parameters() (E.1.1), with the rules on the picture buffer (E.2.1). To be read beside the standard.
use Rattle.std.specs.Prelude.{ℕ, nat_le, ◌==◌, ◌||◌, Bool, Option}
use Rattle.std.specs.Option.{is_some}
use Rattle.h264_base.specs.declared.element_name.ElementName.TheVariants.{AspectRatioInfoPresentFlag, AspectRatioIdc, SarWidth, SarHeight}
use Rattle.h264_base.specs.declared.element_name.ElementName.TheVariants.{OverscanInfoPresentFlag, OverscanAppropriateFlag, VideoSignalTypePresentFlag}
use Rattle.h264_base.specs.declared.element_name.ElementName.TheVariants.{VideoFormat, VideoFullRangeFlag, ColourDescriptionPresentFlag, ColourPrimaries}
use Rattle.h264_base.specs.declared.element_name.ElementName.TheVariants.{TransferCharacteristics, MatrixCoefficients, ChromaLocInfoPresentFlag}
use Rattle.h264_base.specs.declared.element_name.ElementName.TheVariants.{ChromaSampleLocTypeTopField, ChromaSampleLocTypeBottomField, TimingInfoPresentFlag}
use Rattle.h264_base.specs.declared.element_name.ElementName.TheVariants.{NumUnitsInTick, TimeScale, FixedFrameRateFlag, NalHrdParametersPresentFlag}
use Rattle.h264_base.specs.declared.element_name.ElementName.TheVariants.{VclHrdParametersPresentFlag, LowDelayHrdFlag, PicStructPresentFlag}
use Rattle.h264_base.specs.declared.element_name.ElementName.TheVariants.{BitstreamRestrictionFlag, MotionVectorsOverPicBoundariesFlag, MaxBytesPerPicDenom}
use Rattle.h264_base.specs.declared.element_name.ElementName.TheVariants.{MaxBitsPerMbDenom, Log2MaxMvLengthHorizontal, Log2MaxMvLengthVertical}
use Rattle.h264_base.specs.declared.element_name.ElementName.TheVariants.{MaxNumReorderFrames, MaxDecFrameBuffering}
use Rattle.h264_base.specs.declared.rule.Rule.TheVariants.{Vui}
use Rattle.h264_base.specs.Word.{Unsigned}
use Rattle.h264_base.specs.Grammar.{Grammar, Done, ◌>>=◌, element, check}
use Rattle.h264_bits.specs.Forms.{natural, unsigned, bits, flag, optional}
use Rattle.h264_sps.specs.declared.vui.SampleAspectRatio.{SampleAspectRatio}
use Rattle.h264_sps.specs.declared.vui.ExtendedRatio.{ExtendedRatio}
use Rattle.h264_sps.specs.declared.vui.VideoSignalType.{VideoSignalType}
use Rattle.h264_sps.specs.declared.vui.ColourDescription.{ColourDescription}
use Rattle.h264_sps.specs.declared.vui.ChromaLocation.{ChromaLocation}
use Rattle.h264_sps.specs.declared.vui.Timing.{Timing}
use Rattle.h264_sps.specs.declared.vui.BitstreamRestriction.{BitstreamRestriction}
use Rattle.h264_sps.specs.declared.vui.Vui.{Vui as VuiParameters}
use Rattle.h264_sps.specs.Hrd.{hrd}

unfoldable pub extended_ratio : Grammar ExtendedRatio
extended_ratio = do
  width ← bits SarWidth 16
  height ← bits SarHeight 16
  Done (record { sar_width = width; sar_height = height })

unfoldable pub sample_aspect_ratio : Grammar SampleAspectRatio
sample_aspect_ratio = do
  idc ← bits AspectRatioIdc 8
  extended ← optional (idc == 255) extended_ratio
  Done (record { aspect_ratio_idc = idc; extended = extended })

unfoldable pub colour_description : Grammar ColourDescription
colour_description = do
  primaries ← bits ColourPrimaries 8
  transfer ← bits TransferCharacteristics 8
  matrix ← bits MatrixCoefficients 8
  Done (record { colour_primaries = primaries; transfer_characteristics = transfer; matrix_coefficients = matrix })

unfoldable pub video_signal_type : Grammar VideoSignalType
video_signal_type = do
  format ← bits VideoFormat 3
  full_range ← flag VideoFullRangeFlag
  present ← flag ColourDescriptionPresentFlag
  description ← optional present colour_description
  Done (record { video_format = format; video_full_range_flag = full_range; colour_description = description })

unfoldable pub chroma_location : Grammar ChromaLocation
chroma_location = do
  top ← unsigned ChromaSampleLocTypeTopField
  bottom ← unsigned ChromaSampleLocTypeBottomField
  Done (record { top_field = top; bottom_field = bottom })

unfoldable pub timing : Grammar Timing
timing = do
  units ← bits NumUnitsInTick 32
  scale ← bits TimeScale 32
  fixed ← flag FixedFrameRateFlag
  Done (record { num_units_in_tick = units; time_scale = scale; fixed_frame_rate_flag = fixed })

-- The buffer holds the reference frames, no more than the level allows, and no more frames are reordered than it holds.
unfoldable pub bitstream_restriction : ℕ → ℕ → Grammar BitstreamRestriction
bitstream_restriction max_num_ref_frames max_dpb_frames = do
  over ← flag MotionVectorsOverPicBoundariesFlag
  bytes ← unsigned MaxBytesPerPicDenom
  mb_bits ← unsigned MaxBitsPerMbDenom
  across ← unsigned Log2MaxMvLengthHorizontal
  down ← unsigned Log2MaxMvLengthVertical
  reorder ← unsigned MaxNumReorderFrames
  buffering ← element MaxDecFrameBuffering Unsigned
  _ ← check Vui buffering.bit (nat_le reorder (natural buffering.value))
  _ ← check Vui buffering.bit (nat_le max_num_ref_frames (natural buffering.value))
  _ ← check Vui buffering.bit (nat_le (natural buffering.value) max_dpb_frames)
  Done (record {
    motion_vectors_over_pic_boundaries_flag = over;
    max_bytes_per_pic_denom = bytes;
    max_bits_per_mb_denom = mb_bits;
    log2_max_mv_length_horizontal = across;
    log2_max_mv_length_vertical = down;
    max_num_reorder_frames = reorder;
    max_dec_frame_buffering = natural buffering.value;
  })

-- a flag, and the part that is there where it is 1
unfoldable pub flagged : {A : Type 0} → Grammar Bool → Grammar A → Grammar (Option A)
flagged present part = do
  b ← present
  optional b part

unfoldable pub vui : ℕ → ℕ → Grammar VuiParameters
vui max_num_ref_frames max_dpb_frames = do
  ratio ← flagged (flag AspectRatioInfoPresentFlag) sample_aspect_ratio
  overscan ← flagged (flag OverscanInfoPresentFlag) (flag OverscanAppropriateFlag)
  signal ← flagged (flag VideoSignalTypePresentFlag) video_signal_type
  location ← flagged (flag ChromaLocInfoPresentFlag) chroma_location
  time ← flagged (flag TimingInfoPresentFlag) timing
  nal ← flagged (flag NalHrdParametersPresentFlag) hrd
  vcl ← flagged (flag VclHrdParametersPresentFlag) hrd
  low_delay ← optional (is_some nal || is_some vcl) (flag LowDelayHrdFlag)
  pic_struct ← flag PicStructPresentFlag
  restriction ← flagged (flag BitstreamRestrictionFlag) (bitstream_restriction max_num_ref_frames max_dpb_frames)
  Done (record {
    sample_aspect_ratio = ratio;
    overscan_appropriate_flag = overscan;
    video_signal_type = signal;
    chroma_location = location;
    timing = time;
    nal_hrd = nal;
    vcl_hrd = vcl;
    low_delay_hrd_flag = low_delay;
    pic_struct_present_flag = pic_struct;
    bitstream_restriction = restriction;
  })
