-- Marking at the end of a reference picture (8.2.5.1). To be read beside the standard.
use Rattle.std.specs.Prelude.{ℕ, nat_lt, Bool, true, false, Option, Some, None, Result, Ok, Err, [], ◌∷◌, ◌++◌, length, if◌then◌else◌}
use Rattle.std.specs.Option.{option_and_then, ok_or}
use Rattle.h264_base.specs.declared.rule.Rule.TheVariants.{MarkCommand}
use Rattle.h264_base.specs.declared.stop.Stop.{Stop}
use Rattle.h264_base.specs.declared.stop.Stop.TheVariants.{No}
use Rattle.h264_header.specs.declared.header.Marking.{Marking}
use Rattle.h264_header.specs.declared.header.Marking.TheVariants as mode
use Rattle.h264_marking.specs.declared.frame.Term.{Term}
use Rattle.h264_marking.specs.declared.frame.Term.TheVariants.{Short, Long}
use Rattle.h264_marking.specs.declared.frame.ReferenceFrame.{ReferenceFrame}
use Rattle.h264_marking.specs.declared.frame.Numbering.{Numbering}
use Rattle.h264_marking.specs.Frames.{References, frame_places}
use Rattle.h264_marking.specs.Window.{slide}
use Rattle.h264_marking.specs.Operations.{Marks, marks_of, with_frames, all_operated}

-- before the first picture
abbrev pub no_references : References
no_references = record { frames = []; max_long_term_frame_idx_plus1 = 0 }

-- the picture's own frame; operation 5 makes its frame_num 0
abbrev pub own_frame : Numbering → ℕ → Marks → ReferenceFrame
own_frame current picture marks = record { picture = Some picture; frame_num = if marks.resets then 0 else current.frame_num; term = marks.current }

-- it joins the others, if a place is left
abbrev pub with_own : Numbering → ℕ → Marks → Option References
with_own current picture marks =
    if nat_lt (length marks.held.frames) (frame_places current.max_num_ref_frames) then Some (record marks.held {
      frames = marks.held.frames
          ++ own_frame current picture marks ∷ [];
    })
    else None

-- an IDR picture: its frame alone is held
abbrev pub idr_term : Bool → Term
idr_term true = Long 0
idr_term false = Short

abbrev pub idr_references : Numbering → ℕ → Bool → References
idr_references current picture long_term = record {
  frames = record { picture = Some picture; frame_num = current.frame_num; term = idr_term long_term } ∷ [];
  max_long_term_frame_idx_plus1 = if long_term then 1 else 0;
}

abbrev pub slid_and_joined : Numbering → ℕ → References → Option References
slid_and_joined current picture refs = option_and_then (λ frames. with_own current picture (with_frames (marks_of refs) frames)) (slide current refs.frames)

abbrev pub joined : Numbering → ℕ → ℕ → Result Marks ℕ → Result References ℕ
joined current picture bit (Ok marks) = ok_or (with_own current picture marks) bit
joined current picture bit (Err at) = Err at

-- What is held once this picture is marked, or the bit of what cannot be met: an operation, or the sliding window and the total
-- at the bit of the marking.
unfoldable pub marked : Numbering → ℕ → ℕ → Marking → References → Result References ℕ
marked current picture bit (mode.Idr no_output long_term) refs = Ok (idr_references current picture long_term)
marked current picture bit mode.SlidingWindow refs = ok_or (slid_and_joined current picture refs) bit
marked current picture bit (mode.Adaptive operations) refs = joined current picture bit (all_operated current operations.items (marks_of refs))

-- the same as an answer
abbrev pub mark_answer : Result References ℕ → Result (Unit {0}) Stop
mark_answer (Ok refs) = Ok tt
mark_answer (Err bit) = Err (No bit MarkCommand)
