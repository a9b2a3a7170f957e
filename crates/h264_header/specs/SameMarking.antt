-- Whether the slices of a picture say the same of its marking (7.4.3.3). To be read beside the standard.
use Rattle.std.specs.Prelude.{◌&&◌, Bool, true, false, Option, Some, None, List, [], ◌∷◌}
use Rattle.std.specs.Bool.{beq}
use Rattle.h264_bits.specs.declared.element.Found.{Found}
use Rattle.h264_header.specs.declared.header.Marking.{Marking}
use Rattle.h264_header.specs.declared.header.Marking.TheVariants as marking
use Rattle.h264_header.specs.declared.header.MarkingOperation.{MarkingOperation}
use Rattle.h264_header.specs.contracts.header.OperationPartialEq.TheImpl as eq_operation

-- the same operations with the same operands: their equality is decided (laws)
abbrev pub same_operations : List MarkingOperation → List MarkingOperation → Bool
same_operations [] [] = true
same_operations [] (o ∷ os) = false
same_operations (o ∷ os) [] = false
same_operations (o ∷ os) (p ∷ ps) = eq_operation.ghosts.eq o.operation p.operation && same_operations os ps

-- the values of all marking elements are the same
abbrev pub same_values : Marking → Marking → Bool
same_values (marking.Idr no_output long_term) (marking.Idr no_output' long_term') = beq no_output no_output' && beq long_term long_term'
same_values (marking.Idr no_output long_term) marking.SlidingWindow = false
same_values (marking.Idr no_output long_term) (marking.Adaptive operations) = false
same_values marking.SlidingWindow (marking.Idr no_output long_term) = false
same_values marking.SlidingWindow marking.SlidingWindow = true
same_values marking.SlidingWindow (marking.Adaptive operations) = false
same_values (marking.Adaptive operations) (marking.Idr no_output long_term) = false
same_values (marking.Adaptive operations) marking.SlidingWindow = false
same_values (marking.Adaptive operations) (marking.Adaptive operations') = same_operations operations.items operations'.items

abbrev pub same_marking : Option (Found Marking) → Option (Found Marking) → Bool
same_marking None None = true
same_marking None (Some b) = false
same_marking (Some a) None = false
same_marking (Some a) (Some b) = same_values a.value b.value
