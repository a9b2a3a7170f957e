-- pic_parameter_set_rbsp() (7.3.2.2), with the rules on its values (7.4.2.2, A.2.1). To be read beside the standard.
use Rattle.std.specs.Prelude.{ℕ, pos, negsuc, nat_le, ◌==◌, Bool, true}
use Rattle.h264_base.specs.declared.mode.Target.{Target}
use Rattle.h264_base.specs.declared.mode.Target.TheVariants as targets
use Rattle.h264_base.specs.declared.element_name.ElementName.TheVariants.{PicParameterSetId, SeqParameterSetId, EntropyCodingModeFlag}
use Rattle.h264_base.specs.declared.element_name.ElementName.TheVariants.{BottomFieldPicOrderInFramePresentFlag, NumSliceGroupsMinus1}
use Rattle.h264_base.specs.declared.element_name.ElementName.TheVariants.{NumRefIdxL0DefaultActiveMinus1, NumRefIdxL1DefaultActiveMinus1, WeightedPredFlag}
use Rattle.h264_base.specs.declared.element_name.ElementName.TheVariants.{WeightedBipredIdc, PicInitQpMinus26, PicInitQsMinus26, ChromaQpIndexOffset}
use Rattle.h264_base.specs.declared.element_name.ElementName.TheVariants.{DeblockingFilterControlPresentFlag, ConstrainedIntraPredFlag}
use Rattle.h264_base.specs.declared.element_name.ElementName.TheVariants.{RedundantPicCntPresentFlag}
use Rattle.h264_base.specs.declared.rule.Rule.TheVariants.{Range, Tool}
use Rattle.h264_base.specs.Word.{Fixed}
use Rattle.h264_base.specs.Grammar.{Grammar, Done, ◌>>=◌, element, check, trailing}
use Rattle.h264_bits.specs.Forms.{natural, flag, unsigned_to, signed_within, bits_must_be, unsigned_must_be_0}
use Rattle.h264_pps.specs.declared.Pps.{Pps}

-- weighted prediction is a tool of Main (A.2.2); without it, in Constrained Baseline, its elements are 0 (A.2.1.1)
abbrev pub is_weighting_judged : Target → ℕ → Bool
is_weighting_judged targets.Baseline value = value == 0
is_weighting_judged targets.MainIP value = true

-- weighted_pred_flag: whether P slices have weights
unfoldable pub weighted_pred : Target → Grammar Bool
weighted_pred target = do
  e ← element WeightedPredFlag (Fixed 1)
  _ ← check Tool e.bit (is_weighting_judged target (natural e.value))
  Done (natural e.value == 1)

-- weighted_bipred_idc, 0 to 2: how B slices are weighted, on which nothing in I and P slices depends
unfoldable pub weighted_bipred : Target → Grammar ℕ
weighted_bipred target = do
  e ← element WeightedBipredIdc (Fixed 2)
  _ ← check Tool e.bit (is_weighting_judged target (natural e.value))
  _ ← check Range e.bit (nat_le (natural e.value) 2)
  Done (natural e.value)

unfoldable pub pps : Target → Grammar Pps
pps target = do
  id ← unsigned_to PicParameterSetId 255
  sps ← unsigned_to SeqParameterSetId 31
  _ ← bits_must_be EntropyCodingModeFlag 1 0
  bottom ← flag BottomFieldPicOrderInFramePresentFlag
  _ ← unsigned_must_be_0 NumSliceGroupsMinus1
  l0 ← unsigned_to NumRefIdxL0DefaultActiveMinus1 31
  l1 ← unsigned_to NumRefIdxL1DefaultActiveMinus1 31
  weighted ← weighted_pred target
  bipred ← weighted_bipred target
  qp ← signed_within PicInitQpMinus26 (negsuc 25) (pos 25)
  qs ← signed_within PicInitQsMinus26 (negsuc 25) (pos 25)
  chroma ← signed_within ChromaQpIndexOffset (negsuc 11) (pos 12)
  deblocking ← flag DeblockingFilterControlPresentFlag
  intra ← flag ConstrainedIntraPredFlag
  _ ← bits_must_be RedundantPicCntPresentFlag 1 0
  _ ← trailing
  Done (record {
    pic_parameter_set_id = id;
    seq_parameter_set_id = sps;
    bottom_field_pic_order_in_frame_present_flag = bottom;
    num_ref_idx_l0_default_active_minus1 = l0;
    num_ref_idx_l1_default_active_minus1 = l1;
    weighted_pred_flag = weighted;
    weighted_bipred_idc = bipred;
    pic_init_qp_minus26 = qp;
    pic_init_qs_minus26 = qs;
    chroma_qp_index_offset = chroma;
    deblocking_filter_control_present_flag = deblocking;
    constrained_intra_pred_flag = intra;
  })
