-- dec_ref_pic_marking() (7.3.3.3), with the rules on its values (7.4.3.3). To be read beside the standard.
use Rattle.std.specs.Prelude.{ℕ, zero, suc, ◌==◌, ◌&&◌, ◌||◌, nat_le, nat_lt, not, Bool, true, false, Option, Some, None, List, [], length}
use Rattle.std.specs.List.{list_any}
use Rattle.h264_base.specs.declared.element_name.ElementName.TheVariants.{NoOutputOfPriorPicsFlag, LongTermReferenceFlag, AdaptiveRefPicMarkingModeFlag}
use Rattle.h264_base.specs.declared.element_name.ElementName.TheVariants.{MemoryManagementControlOperation, DifferenceOfPicNumsMinus1, LongTermPicNum}
use Rattle.h264_base.specs.declared.element_name.ElementName.TheVariants.{LongTermFrameIdx, MaxLongTermFrameIdxPlus1}
use Rattle.h264_base.specs.declared.rule.Rule.TheVariants.{Range}
use Rattle.h264_base.specs.Word.{Fixed, Unsigned}
use Rattle.h264_base.specs.Grammar.{Grammar, Done, ◌>>=◌, element, check}
use Rattle.h264_bits.specs.Forms.{natural, flag, unsigned}
use Rattle.h264_bits.specs.declared.element.Found.{Found}
use Rattle.h264_header.specs.declared.header.Operation.{Operation}
use Rattle.h264_header.specs.declared.header.Operation.TheVariants.{UnmarkShortTerm, UnmarkLongTerm, MakeLongTerm, LimitLongTerm, UnmarkAll}
use Rattle.h264_header.specs.declared.header.Operation.TheVariants.{MakeCurrentLongTerm}
use Rattle.h264_header.specs.declared.header.MarkingOperation.{MarkingOperation}
use Rattle.h264_header.specs.declared.header.Marking.{Marking}
use Rattle.h264_header.specs.declared.header.Marking.TheVariants as mode
use Rattle.h264_header.specs.Listed.{listed}

-- the number of an operation
abbrev pub number_of : Operation → ℕ
number_of (UnmarkShortTerm difference) = 1
number_of (UnmarkLongTerm number) = 2
number_of (MakeLongTerm difference index) = 3
number_of (LimitLongTerm greatest) = 4
number_of UnmarkAll = 5
number_of (MakeCurrentLongTerm index) = 6

-- the operands of an operation; other numbers than 1 to 6 have none
unfoldable pub operands : ℕ → Grammar (Option Operation)
operands zero = Done None
operands (suc zero) = do
  difference ← unsigned DifferenceOfPicNumsMinus1
  Done (Some (UnmarkShortTerm difference))
operands (suc (suc zero)) = do
  number ← unsigned LongTermPicNum
  Done (Some (UnmarkLongTerm number))
operands (suc (suc (suc zero))) = do
  difference ← unsigned DifferenceOfPicNumsMinus1
  index ← unsigned LongTermFrameIdx
  Done (Some (MakeLongTerm difference index))
operands (suc (suc (suc (suc zero)))) = do
  greatest ← unsigned MaxLongTermFrameIdxPlus1
  Done (Some (LimitLongTerm greatest))
operands (suc (suc (suc (suc (suc zero))))) = Done (Some UnmarkAll)
operands (suc (suc (suc (suc (suc (suc zero)))))) = do
  index ← unsigned LongTermFrameIdx
  Done (Some (MakeCurrentLongTerm index))
operands (suc (suc (suc (suc (suc (suc (suc n))))))) = Done None

-- one of 4, 5 and 6 that has come before
abbrev pub is_repeated : List MarkingOperation → ℕ → Bool
is_repeated before number = nat_le 4 number && list_any (λ m. number_of m.operation == number) before

-- 0 ends the operations, of which there are at most 36
abbrev pub is_operation_allowed : List MarkingOperation → ℕ → Bool
is_operation_allowed before number = number == 0 || (nat_le number 6 && nat_lt (length before) 36 && not (is_repeated before number))

abbrev pub placed_operation : ℕ → Option Operation → Option MarkingOperation
placed_operation bit None = None
placed_operation bit (Some o) = Some (record { bit = bit; operation = o })

-- one more operation after these, or the end
unfoldable pub operation : List MarkingOperation → Grammar (Option MarkingOperation)
operation before = do
  e ← element MemoryManagementControlOperation Unsigned
  _ ← check Range e.bit (is_operation_allowed before (natural e.value))
  o ← operands (natural e.value)
  Done (placed_operation e.bit o)

unfoldable pub operations : Grammar (List MarkingOperation)
operations = listed operation 37 []

unfoldable pub idr_marking : Grammar (Found Marking)
idr_marking = do
  no_output ← element NoOutputOfPriorPicsFlag (Fixed 1)
  long_term ← flag LongTermReferenceFlag
  Done (record { bit = no_output.bit; value = mode.Idr (natural no_output.value == 1) long_term })

unfoldable pub marking_mode : Bool → Grammar Marking
marking_mode false = Done mode.SlidingWindow
marking_mode true = do
  found ← operations
  Done (mode.Adaptive (record { items = found }))

unfoldable pub other_marking : Grammar (Found Marking)
other_marking = do
  adaptive ← element AdaptiveRefPicMarkingModeFlag (Fixed 1)
  marking ← marking_mode (natural adaptive.value == 1)
  Done (record { bit = adaptive.bit; value = marking })

unfoldable pub dec_ref_pic_marking : Bool → Grammar (Found Marking)
dec_ref_pic_marking true = idr_marking
dec_ref_pic_marking false = other_marking
