-- The decoded picture buffer of a stream (C.4.2, C.4.4, C.4.5), from its pictures, the newest first. To be read beside the standard.
use Rattle.std.specs.Prelude.{ℕ, Option, Some, None, List, [], ◌∷◌, map, length, ℤ, pos, if◌then◌else◌}
use Rattle.std.specs.Int.{int_min}
use Rattle.std.specs.Option.{is_some}
use Rattle.h264_verify.specs.declared.state.Depth.{Depth}
use Rattle.h264_verify.specs.declared.state.Depth.TheVariants as depths
use Rattle.h264_base.specs.declared.rule.Rule.TheVariants.{FrameNum}
use Rattle.h264_poc.specs.declared.picture.Picture.{Picture}
use Rattle.h264_poc.specs.declared.picture.Count.{Count}
use Rattle.h264_poc.specs.Counts.{count_of}
use Rattle.h264_header.specs.Picture.{is_idr}
use Rattle.h264_marking.specs.declared.frame.Numbering.{Numbering}
use Rattle.h264_marking.specs.Frames.{References}
use Rattle.h264_marking.specs.Window.{filled}
use Rattle.h264_marking.specs.Gaps.{unused_short_term_frame_nums}
use Rattle.h264_marking.specs.Ended.{numbering_of}
use Rattle.h264_picture.specs.Buffer.{buffer_size}
use Rattle.h264_dpb.specs.declared.entry.Entry.{Entry}
use Rattle.h264_dpb.specs.Buffered.{Buffered, places_taken}
use Rattle.h264_dpb.specs.declared.ended.Ended.{Ended}
use Rattle.h264_dpb.specs.Ending.{ended_of}
use Rattle.h264_dpb.specs.Turns.{Shown, Turn, turn_then, stays, no_buffer, missing_turn, end_turn, last_turn}
use Rattle.h264_verify.specs.Telling.{Decodes, Shows}
use Rattle.h264_verify.specs.Course.{Steps, Needs, nothing, ◌>>◌, tells}
use Rattle.h264_verify.specs.History.{History}
use Rattle.h264_verify.specs.Pictures.{CodedPicture, goes_on, runs_of, counted, prev_ref_frame_num_of, held_after}

-- the counts of the newest picture
abbrev pub newest_count : List Picture → Option Count
newest_count [] = None
newest_count (p ∷ pictures) = count_of pictures p

-- the count of a frame is the lesser of its fields'
abbrev pub frame_count : Option Count → ℤ
frame_count None = pos 0
frame_count (Some count) = int_min count.top count.bottom

-- A picture after these, as the buffer sees it: with its number in decoding order, its count, and the size of its sequence's buffer.
abbrev pub ended_picture : CodedPicture → List CodedPicture → Ended
ended_picture p ps = ended_of p.first.sps p.first.header (length ps) (frame_count (newest_count (map counted (p ∷ ps)))) (buffer_size p.first.sps)

-- ---- the buffer

-- the missing numbers before a picture, one after another, until one cannot be filled
abbrev pub gap_on : Option References → (References → Turn) → Buffered Shown → Turn
gap_on None next b = stays b
gap_on (Some refs) next b = next refs

abbrev pub gaps_turn : Numbering → List ℕ → References → Buffered Shown → Turn
gaps_turn n [] refs b = stays b
gaps_turn n (number ∷ numbers) refs b =
    gap_on (filled (record n { frame_num = number }) refs) (λ held. turn_then (missing_turn held b) (gaps_turn n numbers held)) b

-- the numbers that are missing before a picture after these
abbrev pub missing_before : CodedPicture → List CodedPicture → List ℕ
missing_before p ps = unused_short_term_frame_nums (is_idr p.first.header) (prev_ref_frame_num_of ps) (numbering_of p.first.sps p.first.header)

abbrev pub gaps_before : CodedPicture → List CodedPicture → Buffered Shown → Turn
gaps_before p ps b = gaps_turn (numbering_of p.first.sps p.first.header) (missing_before p ps) (held_after ps) b

-- the end of a picture after these
abbrev pub ended_turn : CodedPicture → List CodedPicture → Buffered Shown → Turn
ended_turn p ps b = end_turn (ended_picture p ps) (held_after (p ∷ ps)) b

-- What all these pictures have written once they have ended, and the buffer then.
abbrev pub after_all : List CodedPicture → Turn
after_all [] = stays no_buffer
after_all (p ∷ ps) = turn_then (turn_then (after_all ps) (gaps_before p ps)) (ended_turn p ps)

-- What all but the newest have written, and the buffer while the newest is decoded.
abbrev pub within_newest : List CodedPicture → Turn
within_newest [] = stays no_buffer
within_newest (p ∷ ps) = turn_then (after_all ps) (gaps_before p ps)

-- How many places of the buffer are taken after these units, while the newest picture is decoded or once it has ended (C.4.2).
abbrev pub taken_after : History → ℕ
taken_after before = places_taken (if goes_on before then within_newest (runs_of before) else after_all (runs_of before)).buffer

-- ---- what comes to pass of frames

-- each frame that is written, where frames are made
abbrev pub told_frames : Depth → List (Entry Shown) → Steps
told_frames depths.Units written = nothing
told_frames depths.Headers written = nothing
told_frames depths.Full written = tells (map Shows written)

-- the newest of these pictures is decoded, where frames are made
abbrev pub told_picture : Depth → List CodedPicture → Steps
told_picture depths.Units pictures = nothing
told_picture depths.Headers pictures = nothing
told_picture depths.Full pictures = tells (Decodes pictures ∷ [])

-- it is decoded, and then the frames are written that its end writes
abbrev pub end_frames : Depth → List CodedPicture → Steps
end_frames depth [] = nothing
end_frames depth (p ∷ ps) =
    told_picture depth (p ∷ ps)
    >> told_frames depth (ended_turn p ps (within_newest (p ∷ ps)).buffer).written

-- those of the picture that may go on after these units, if there is such a picture
abbrev pub closing_frames : Depth → History → Steps
closing_frames depth before = if goes_on before then end_frames depth (runs_of before) else nothing

-- The missing numbers before a picture, in turn: each can be filled, and then the frames are written that its place costs (7.4.3, 8.2.5.2).
abbrev pub missing_on : Option References → (References → Steps) → Steps
missing_on None next = nothing
missing_on (Some refs) next = next refs

abbrev pub missing_steps : Depth → ℕ → Numbering → List ℕ → References → Buffered Shown → Steps
missing_steps depth bit n [] refs b = nothing
missing_steps depth bit n (number ∷ numbers) refs b =
    Needs (record { rule = FrameNum; bit = bit; met = is_some (filled (record n { frame_num = number }) refs) })
    (missing_on (filled (record n { frame_num = number }) refs) (λ held.
    told_frames depth (missing_turn held b).written
    >> missing_steps depth bit n numbers held (missing_turn held b).buffer))

-- the frames that the end of the input writes, once all pictures have ended
abbrev pub last_frames : Depth → List CodedPicture → Steps
last_frames depth pictures = told_frames depth (last_turn (after_all pictures).buffer).written

-- how many frames a stream of these pictures writes, where frames are made
abbrev pub frames_written : Depth → List CodedPicture → ℕ
frames_written depths.Units pictures = 0
frames_written depths.Headers pictures = 0
frames_written depths.Full pictures = length (turn_then (after_all pictures) last_turn).written
