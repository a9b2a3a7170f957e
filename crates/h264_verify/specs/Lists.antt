-- The reference lists of slices (8.2.4). To be read beside the standard.
use Rattle.std.specs.Prelude.{ℕ, Option, Result, Ok, List, []}
use Rattle.std.specs.Result.{result_unwrap_or}
use Rattle.h264_header.specs.declared.header.SliceKind.{SliceKind}
use Rattle.h264_header.specs.declared.header.SliceKind.TheVariants as kinds
use Rattle.h264_marking.specs.declared.frame.Numbering.{Numbering}
use Rattle.h264_marking.specs.Frames.{References}
use Rattle.h264_marking.specs.Ended.{numbering_of}
use Rattle.h264_lists.specs.declared.slot.RefSlot.{RefSlot}
use Rattle.h264_lists.specs.Built.{built}
use Rattle.h264_vectors.specs.declared.slice.SliceContext.{SliceContext}
use Rattle.h264_picture.specs.Context.{slice_context}
use Rattle.h264_verify.specs.Pictures.{CodedSlice, CodedPicture, held_in}

-- the list of a slice; an I slice has none
abbrev pub list_of : SliceKind → Numbering → References → Result (List RefSlot) ℕ
list_of kinds.I n refs = Ok []
list_of (kinds.P list) n refs = built n list refs.frames

-- the list of a slice of the newest of these pictures; the rules on it are met
abbrev pub list_in : List CodedPicture → CodedSlice → List RefSlot
list_in pictures s = result_unwrap_or (list_of s.header.kind.value (numbering_of s.sps s.header) (held_in pictures)) []

-- what its macroblocks take from it
abbrev pub context_in : List CodedPicture → CodedSlice → SliceContext
context_in pictures s = slice_context s.pps s.sps s.header (list_in pictures s)

-- the numbers of the pictures that it names, by refIdxL0
abbrev pub named_in : List CodedPicture → CodedSlice → List (Option ℕ)
named_in pictures s = (context_in pictures s).references
