-- To be read beside the standard. What a P slice says of its reference picture list and of prediction from it: num_ref_idx_active_override_flag,
-- ref_pic_list_modification() and, where weighted_pred_flag is 1, pred_weight_table() (7.3.3, 7.3.3.1, 7.3.3.2).
use Rattle.std.specs.Prelude.{ℕ, zero, suc, ◌+◌, ◌-◌, ◌==◌, ◌^◌, ◌&&◌, nat_le, nat_lt, Bool, true, false, Option, Some, None, List, [], length, if◌then◌else◌}
use Rattle.h264_base.specs.declared.element_name.ElementName.TheVariants.{NumRefIdxActiveOverrideFlag, NumRefIdxL0ActiveMinus1, RefPicListModificationFlagL0}
use Rattle.h264_base.specs.declared.element_name.ElementName.TheVariants.{ModificationOfPicNumsIdc, AbsDiffPicNumMinus1, LongTermPicNum}
use Rattle.h264_base.specs.declared.rule.Rule.TheVariants.{Range}
use Rattle.h264_base.specs.declared.mode.SliceType.{SliceType}
use Rattle.h264_base.specs.declared.mode.SliceType.TheVariants as slice_type
use Rattle.h264_base.specs.Word.{Fixed, Unsigned}
use Rattle.h264_base.specs.Grammar.{Grammar, Done, ◌>>=◌, element, check}
use Rattle.h264_bits.specs.Forms.{natural, flag, unsigned, unsigned_to, optional}
use Rattle.h264_header.specs.PredWeightTable.{pred_weight_table}
use Rattle.h264_header.specs.declared.header.Modification.{Modification}
use Rattle.h264_header.specs.declared.header.Modification.TheVariants.{Subtract, Add, LongTerm}
use Rattle.h264_header.specs.declared.header.PicNumModification.{PicNumModification}
use Rattle.h264_header.specs.declared.header.RefPicList0.{RefPicList0}
use Rattle.h264_header.specs.declared.header.SliceKind.{SliceKind}
use Rattle.h264_header.specs.declared.header.SliceKind.TheVariants as kind
use Rattle.h264_header.specs.declared.layout.Layout.{Layout}
use Rattle.h264_header.specs.Listed.{listed}

-- the slice's own num_ref_idx_l0_active_minus1, or the picture parameter set's, which then has to be at most 15
unfoldable pub minus1_of : ℕ → ℕ → Bool → Grammar ℕ
minus1_of bit default_minus1 true = unsigned_to NumRefIdxL0ActiveMinus1 15
minus1_of bit default_minus1 false = do
  _ ← check Range bit (nat_le default_minus1 15)
  Done default_minus1

unfoldable pub num_ref_idx_l0_active_minus1 : ℕ → Grammar ℕ
num_ref_idx_l0_active_minus1 default_minus1 = do
  override ← element NumRefIdxActiveOverrideFlag (Fixed 1)
  minus1_of override.bit default_minus1 (natural override.value == 1)

-- the operand of a command, a difference being at most this; other commands than 0, 1 and 2 have none
unfoldable pub command : ℕ → ℕ → Grammar (Option Modification)
command greatest zero = do
  difference ← unsigned_to AbsDiffPicNumMinus1 greatest
  Done (Some (Subtract difference))
command greatest (suc zero) = do
  difference ← unsigned_to AbsDiffPicNumMinus1 greatest
  Done (Some (Add difference))
command greatest (suc (suc zero)) = do
  number ← unsigned LongTermPicNum
  Done (Some (LongTerm number))
command greatest (suc (suc (suc n))) = Done None

-- 3 ends the commands and is not the first; 0, 1 and 2 come at most as often as the list is long
abbrev pub is_command_allowed : ℕ → ℕ → ℕ → Bool
is_command_allowed active before idc = if idc == 3 then nat_lt 0 before else nat_lt idc 3 && nat_lt before active

abbrev pub placed_modification : ℕ → Option Modification → Option PicNumModification
placed_modification bit None = None
placed_modification bit (Some m) = Some (record { bit = bit; modification = m })

-- one more command after these, or the end
unfoldable pub modification : ℕ → ℕ → List PicNumModification → Grammar (Option PicNumModification)
modification greatest active before = do
  e ← element ModificationOfPicNumsIdc Unsigned
  _ ← check Range e.bit (is_command_allowed active (length before) (natural e.value))
  m ← command greatest (natural e.value)
  Done (placed_modification e.bit m)

-- the commands, of which there are none where the flag is 0
unfoldable pub modifications_if : ℕ → ℕ → Bool → Grammar (List PicNumModification)
modifications_if greatest active false = Done []
modifications_if greatest active true = listed (modification greatest active) (active + 1) []

-- abs_diff_pic_num_minus1 is below MaxFrameNum
unfoldable pub ref_pic_list0 : Layout → Grammar RefPicList0
ref_pic_list0 layout = do
  minus1 ← num_ref_idx_l0_active_minus1 layout.default_active_minus1
  modified ← flag RefPicListModificationFlagL0
  commands ← modifications_if (2 ^ layout.frame_num_length - 1) (minus1 + 1) modified
  table ← optional layout.has_weights (pred_weight_table (minus1 + 1))
  Done (record { num_ref_idx_l0_active = minus1 + 1; modifications = record { items = commands }; pred_weight_table = table })

unfoldable pub slice_kind : Layout → SliceType → Grammar SliceKind
slice_kind layout slice_type.P = do
  list ← ref_pic_list0 layout
  Done (kind.P list)
slice_kind layout slice_type.I = Done kind.I
