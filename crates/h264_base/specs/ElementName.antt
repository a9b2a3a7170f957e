-- The names of the syntax elements, as the standard spells them. To be read beside the standard.
use Rattle.std.specs.Prelude.{ℕ, List, codes}
use Rattle.h264_base.specs.declared.element_name.ElementName.{ElementName}
use Rattle.h264_base.specs.declared.element_name.ElementName.TheVariants.{ProfileIdc, ConstraintSet0Flag, ConstraintSet1Flag, ConstraintSet2Flag}
use Rattle.h264_base.specs.declared.element_name.ElementName.TheVariants.{ConstraintSet3Flag, ConstraintSet4Flag, ConstraintSet5Flag, ReservedZero2bits}
use Rattle.h264_base.specs.declared.element_name.ElementName.TheVariants.{LevelIdc, SeqParameterSetId, Log2MaxFrameNumMinus4, PicOrderCntType}
use Rattle.h264_base.specs.declared.element_name.ElementName.TheVariants.{Log2MaxPicOrderCntLsbMinus4, DeltaPicOrderAlwaysZeroFlag, OffsetForNonRefPic}
use Rattle.h264_base.specs.declared.element_name.ElementName.TheVariants.{OffsetForTopToBottomField, NumRefFramesInPicOrderCntCycle, OffsetForRefFrame}
use Rattle.h264_base.specs.declared.element_name.ElementName.TheVariants.{MaxNumRefFrames, GapsInFrameNumValueAllowedFlag, PicWidthInMbsMinus1}
use Rattle.h264_base.specs.declared.element_name.ElementName.TheVariants.{PicHeightInMapUnitsMinus1, FrameMbsOnlyFlag, Direct8x8InferenceFlag}
use Rattle.h264_base.specs.declared.element_name.ElementName.TheVariants.{FrameCroppingFlag, FrameCropLeftOffset, FrameCropRightOffset, FrameCropTopOffset}
use Rattle.h264_base.specs.declared.element_name.ElementName.TheVariants.{FrameCropBottomOffset, VuiParametersPresentFlag, AspectRatioInfoPresentFlag}
use Rattle.h264_base.specs.declared.element_name.ElementName.TheVariants.{AspectRatioIdc, SarWidth, SarHeight, OverscanInfoPresentFlag}
use Rattle.h264_base.specs.declared.element_name.ElementName.TheVariants.{OverscanAppropriateFlag, VideoSignalTypePresentFlag, VideoFormat}
use Rattle.h264_base.specs.declared.element_name.ElementName.TheVariants.{VideoFullRangeFlag, ColourDescriptionPresentFlag, ColourPrimaries}
use Rattle.h264_base.specs.declared.element_name.ElementName.TheVariants.{TransferCharacteristics, MatrixCoefficients, ChromaLocInfoPresentFlag}
use Rattle.h264_base.specs.declared.element_name.ElementName.TheVariants.{ChromaSampleLocTypeTopField, ChromaSampleLocTypeBottomField, TimingInfoPresentFlag}
use Rattle.h264_base.specs.declared.element_name.ElementName.TheVariants.{NumUnitsInTick, TimeScale, FixedFrameRateFlag, NalHrdParametersPresentFlag}
use Rattle.h264_base.specs.declared.element_name.ElementName.TheVariants.{VclHrdParametersPresentFlag, CpbCntMinus1, BitRateScale, CpbSizeScale}
use Rattle.h264_base.specs.declared.element_name.ElementName.TheVariants.{BitRateValueMinus1, CpbSizeValueMinus1, CbrFlag, InitialCpbRemovalDelayLengthMinus1}
use Rattle.h264_base.specs.declared.element_name.ElementName.TheVariants.{CpbRemovalDelayLengthMinus1, DpbOutputDelayLengthMinus1, TimeOffsetLength}
use Rattle.h264_base.specs.declared.element_name.ElementName.TheVariants.{LowDelayHrdFlag, PicStructPresentFlag, BitstreamRestrictionFlag}
use Rattle.h264_base.specs.declared.element_name.ElementName.TheVariants.{MotionVectorsOverPicBoundariesFlag, MaxBytesPerPicDenom, MaxBitsPerMbDenom}
use Rattle.h264_base.specs.declared.element_name.ElementName.TheVariants.{Log2MaxMvLengthHorizontal, Log2MaxMvLengthVertical, MaxNumReorderFrames}
use Rattle.h264_base.specs.declared.element_name.ElementName.TheVariants.{MaxDecFrameBuffering, PicParameterSetId, EntropyCodingModeFlag}
use Rattle.h264_base.specs.declared.element_name.ElementName.TheVariants.{BottomFieldPicOrderInFramePresentFlag, NumSliceGroupsMinus1}
use Rattle.h264_base.specs.declared.element_name.ElementName.TheVariants.{NumRefIdxL0DefaultActiveMinus1, NumRefIdxL1DefaultActiveMinus1, WeightedPredFlag}
use Rattle.h264_base.specs.declared.element_name.ElementName.TheVariants.{WeightedBipredIdc, PicInitQpMinus26, PicInitQsMinus26, ChromaQpIndexOffset}
use Rattle.h264_base.specs.declared.element_name.ElementName.TheVariants.{DeblockingFilterControlPresentFlag, ConstrainedIntraPredFlag}
use Rattle.h264_base.specs.declared.element_name.ElementName.TheVariants.{RedundantPicCntPresentFlag, FirstMbInSlice, SliceType, FrameNum, IdrPicId}
use Rattle.h264_base.specs.declared.element_name.ElementName.TheVariants.{PicOrderCntLsb, DeltaPicOrderCntBottom, DeltaPicOrderCnt}
use Rattle.h264_base.specs.declared.element_name.ElementName.TheVariants.{NumRefIdxActiveOverrideFlag, NumRefIdxL0ActiveMinus1, RefPicListModificationFlagL0}
use Rattle.h264_base.specs.declared.element_name.ElementName.TheVariants.{ModificationOfPicNumsIdc, AbsDiffPicNumMinus1, LongTermPicNum, LumaLog2WeightDenom}
use Rattle.h264_base.specs.declared.element_name.ElementName.TheVariants.{ChromaLog2WeightDenom, LumaWeightL0Flag, LumaWeightL0, LumaOffsetL0}
use Rattle.h264_base.specs.declared.element_name.ElementName.TheVariants.{ChromaWeightL0Flag, ChromaWeightL0, ChromaOffsetL0, NoOutputOfPriorPicsFlag}
use Rattle.h264_base.specs.declared.element_name.ElementName.TheVariants.{LongTermReferenceFlag, AdaptiveRefPicMarkingModeFlag}
use Rattle.h264_base.specs.declared.element_name.ElementName.TheVariants.{MemoryManagementControlOperation, DifferenceOfPicNumsMinus1, LongTermFrameIdx}
use Rattle.h264_base.specs.declared.element_name.ElementName.TheVariants.{MaxLongTermFrameIdxPlus1, SliceQpDelta, DisableDeblockingFilterIdc}
use Rattle.h264_base.specs.declared.element_name.ElementName.TheVariants.{SliceAlphaC0OffsetDiv2, SliceBetaOffsetDiv2, MbSkipRun, MbType, SubMbType}
use Rattle.h264_base.specs.declared.element_name.ElementName.TheVariants.{PrevIntra4x4PredModeFlag, RemIntra4x4PredMode, IntraChromaPredMode, RefIdxL0, MvdL0}
use Rattle.h264_base.specs.declared.element_name.ElementName.TheVariants.{CodedBlockPattern, MbQpDelta, CoeffToken, TrailingOnesSignFlag, LevelPrefix}
use Rattle.h264_base.specs.declared.element_name.ElementName.TheVariants.{LevelSuffix, TotalZeros, RunBefore}

unfoldable pub text_of : ElementName → List ℕ
text_of ProfileIdc = codes "profile_idc"
text_of ConstraintSet0Flag = codes "constraint_set0_flag"
text_of ConstraintSet1Flag = codes "constraint_set1_flag"
text_of ConstraintSet2Flag = codes "constraint_set2_flag"
text_of ConstraintSet3Flag = codes "constraint_set3_flag"
text_of ConstraintSet4Flag = codes "constraint_set4_flag"
text_of ConstraintSet5Flag = codes "constraint_set5_flag"
text_of ReservedZero2bits = codes "reserved_zero_2bits"
text_of LevelIdc = codes "level_idc"
text_of SeqParameterSetId = codes "seq_parameter_set_id"
text_of Log2MaxFrameNumMinus4 = codes "log2_max_frame_num_minus4"
text_of PicOrderCntType = codes "pic_order_cnt_type"
text_of Log2MaxPicOrderCntLsbMinus4 = codes "log2_max_pic_order_cnt_lsb_minus4"
text_of DeltaPicOrderAlwaysZeroFlag = codes "delta_pic_order_always_zero_flag"
text_of OffsetForNonRefPic = codes "offset_for_non_ref_pic"
text_of OffsetForTopToBottomField = codes "offset_for_top_to_bottom_field"
text_of NumRefFramesInPicOrderCntCycle = codes "num_ref_frames_in_pic_order_cnt_cycle"
text_of OffsetForRefFrame = codes "offset_for_ref_frame"
text_of MaxNumRefFrames = codes "max_num_ref_frames"
text_of GapsInFrameNumValueAllowedFlag = codes "gaps_in_frame_num_value_allowed_flag"
text_of PicWidthInMbsMinus1 = codes "pic_width_in_mbs_minus1"
text_of PicHeightInMapUnitsMinus1 = codes "pic_height_in_map_units_minus1"
text_of FrameMbsOnlyFlag = codes "frame_mbs_only_flag"
text_of Direct8x8InferenceFlag = codes "direct_8x8_inference_flag"
text_of FrameCroppingFlag = codes "frame_cropping_flag"
text_of FrameCropLeftOffset = codes "frame_crop_left_offset"
text_of FrameCropRightOffset = codes "frame_crop_right_offset"
text_of FrameCropTopOffset = codes "frame_crop_top_offset"
text_of FrameCropBottomOffset = codes "frame_crop_bottom_offset"
text_of VuiParametersPresentFlag = codes "vui_parameters_present_flag"
text_of AspectRatioInfoPresentFlag = codes "aspect_ratio_info_present_flag"
text_of AspectRatioIdc = codes "aspect_ratio_idc"
text_of SarWidth = codes "sar_width"
text_of SarHeight = codes "sar_height"
text_of OverscanInfoPresentFlag = codes "overscan_info_present_flag"
text_of OverscanAppropriateFlag = codes "overscan_appropriate_flag"
text_of VideoSignalTypePresentFlag = codes "video_signal_type_present_flag"
text_of VideoFormat = codes "video_format"
text_of VideoFullRangeFlag = codes "video_full_range_flag"
text_of ColourDescriptionPresentFlag = codes "colour_description_present_flag"
text_of ColourPrimaries = codes "colour_primaries"
text_of TransferCharacteristics = codes "transfer_characteristics"
text_of MatrixCoefficients = codes "matrix_coefficients"
text_of ChromaLocInfoPresentFlag = codes "chroma_loc_info_present_flag"
text_of ChromaSampleLocTypeTopField = codes "chroma_sample_loc_type_top_field"
text_of ChromaSampleLocTypeBottomField = codes "chroma_sample_loc_type_bottom_field"
text_of TimingInfoPresentFlag = codes "timing_info_present_flag"
text_of NumUnitsInTick = codes "num_units_in_tick"
text_of TimeScale = codes "time_scale"
text_of FixedFrameRateFlag = codes "fixed_frame_rate_flag"
text_of NalHrdParametersPresentFlag = codes "nal_hrd_parameters_present_flag"
text_of VclHrdParametersPresentFlag = codes "vcl_hrd_parameters_present_flag"
text_of CpbCntMinus1 = codes "cpb_cnt_minus1"
text_of BitRateScale = codes "bit_rate_scale"
text_of CpbSizeScale = codes "cpb_size_scale"
text_of BitRateValueMinus1 = codes "bit_rate_value_minus1"
text_of CpbSizeValueMinus1 = codes "cpb_size_value_minus1"
text_of CbrFlag = codes "cbr_flag"
text_of InitialCpbRemovalDelayLengthMinus1 = codes "initial_cpb_removal_delay_length_minus1"
text_of CpbRemovalDelayLengthMinus1 = codes "cpb_removal_delay_length_minus1"
text_of DpbOutputDelayLengthMinus1 = codes "dpb_output_delay_length_minus1"
text_of TimeOffsetLength = codes "time_offset_length"
text_of LowDelayHrdFlag = codes "low_delay_hrd_flag"
text_of PicStructPresentFlag = codes "pic_struct_present_flag"
text_of BitstreamRestrictionFlag = codes "bitstream_restriction_flag"
text_of MotionVectorsOverPicBoundariesFlag = codes "motion_vectors_over_pic_boundaries_flag"
text_of MaxBytesPerPicDenom = codes "max_bytes_per_pic_denom"
text_of MaxBitsPerMbDenom = codes "max_bits_per_mb_denom"
text_of Log2MaxMvLengthHorizontal = codes "log2_max_mv_length_horizontal"
text_of Log2MaxMvLengthVertical = codes "log2_max_mv_length_vertical"
text_of MaxNumReorderFrames = codes "max_num_reorder_frames"
text_of MaxDecFrameBuffering = codes "max_dec_frame_buffering"
text_of PicParameterSetId = codes "pic_parameter_set_id"
text_of EntropyCodingModeFlag = codes "entropy_coding_mode_flag"
text_of BottomFieldPicOrderInFramePresentFlag = codes "bottom_field_pic_order_in_frame_present_flag"
text_of NumSliceGroupsMinus1 = codes "num_slice_groups_minus1"
text_of NumRefIdxL0DefaultActiveMinus1 = codes "num_ref_idx_l0_default_active_minus1"
text_of NumRefIdxL1DefaultActiveMinus1 = codes "num_ref_idx_l1_default_active_minus1"
text_of WeightedPredFlag = codes "weighted_pred_flag"
text_of WeightedBipredIdc = codes "weighted_bipred_idc"
text_of PicInitQpMinus26 = codes "pic_init_qp_minus26"
text_of PicInitQsMinus26 = codes "pic_init_qs_minus26"
text_of ChromaQpIndexOffset = codes "chroma_qp_index_offset"
text_of DeblockingFilterControlPresentFlag = codes "deblocking_filter_control_present_flag"
text_of ConstrainedIntraPredFlag = codes "constrained_intra_pred_flag"
text_of RedundantPicCntPresentFlag = codes "redundant_pic_cnt_present_flag"
text_of FirstMbInSlice = codes "first_mb_in_slice"
text_of SliceType = codes "slice_type"
text_of FrameNum = codes "frame_num"
text_of IdrPicId = codes "idr_pic_id"
text_of PicOrderCntLsb = codes "pic_order_cnt_lsb"
text_of DeltaPicOrderCntBottom = codes "delta_pic_order_cnt_bottom"
text_of DeltaPicOrderCnt = codes "delta_pic_order_cnt"
text_of NumRefIdxActiveOverrideFlag = codes "num_ref_idx_active_override_flag"
text_of NumRefIdxL0ActiveMinus1 = codes "num_ref_idx_l0_active_minus1"
text_of RefPicListModificationFlagL0 = codes "ref_pic_list_modification_flag_l0"
text_of ModificationOfPicNumsIdc = codes "modification_of_pic_nums_idc"
text_of AbsDiffPicNumMinus1 = codes "abs_diff_pic_num_minus1"
text_of LongTermPicNum = codes "long_term_pic_num"
text_of LumaLog2WeightDenom = codes "luma_log2_weight_denom"
text_of ChromaLog2WeightDenom = codes "chroma_log2_weight_denom"
text_of LumaWeightL0Flag = codes "luma_weight_l0_flag"
text_of LumaWeightL0 = codes "luma_weight_l0"
text_of LumaOffsetL0 = codes "luma_offset_l0"
text_of ChromaWeightL0Flag = codes "chroma_weight_l0_flag"
text_of ChromaWeightL0 = codes "chroma_weight_l0"
text_of ChromaOffsetL0 = codes "chroma_offset_l0"
text_of NoOutputOfPriorPicsFlag = codes "no_output_of_prior_pics_flag"
text_of LongTermReferenceFlag = codes "long_term_reference_flag"
text_of AdaptiveRefPicMarkingModeFlag = codes "adaptive_ref_pic_marking_mode_flag"
text_of MemoryManagementControlOperation = codes "memory_management_control_operation"
text_of DifferenceOfPicNumsMinus1 = codes "difference_of_pic_nums_minus1"
text_of LongTermFrameIdx = codes "long_term_frame_idx"
text_of MaxLongTermFrameIdxPlus1 = codes "max_long_term_frame_idx_plus1"
text_of SliceQpDelta = codes "slice_qp_delta"
text_of DisableDeblockingFilterIdc = codes "disable_deblocking_filter_idc"
text_of SliceAlphaC0OffsetDiv2 = codes "slice_alpha_c0_offset_div2"
text_of SliceBetaOffsetDiv2 = codes "slice_beta_offset_div2"
text_of MbSkipRun = codes "mb_skip_run"
text_of MbType = codes "mb_type"
text_of SubMbType = codes "sub_mb_type"
text_of PrevIntra4x4PredModeFlag = codes "prev_intra4x4_pred_mode_flag"
text_of RemIntra4x4PredMode = codes "rem_intra4x4_pred_mode"
text_of IntraChromaPredMode = codes "intra_chroma_pred_mode"
text_of RefIdxL0 = codes "ref_idx_l0"
text_of MvdL0 = codes "mvd_l0"
text_of CodedBlockPattern = codes "coded_block_pattern"
text_of MbQpDelta = codes "mb_qp_delta"
text_of CoeffToken = codes "coeff_token"
text_of TrailingOnesSignFlag = codes "trailing_ones_sign_flag"
text_of LevelPrefix = codes "level_prefix"
text_of LevelSuffix = codes "level_suffix"
text_of TotalZeros = codes "total_zeros"
text_of RunBefore = codes "run_before"
