-- The sliding window (8.2.5.3), and gaps in frame_num (8.2.5.2). To be read beside the standard.
use Rattle.std.specs.Prelude.{ℕ, ℤ, nat_lt, Option, Some, None, List, [], ◌∷◌, ◌++◌, length, if◌then◌else◌}
use Rattle.std.specs.List.{list_any}
use Rattle.std.specs.Option.{option_map, option_and_then}
use Rattle.std.specs.Int.{int_min}
use Rattle.h264_marking.specs.declared.frame.Term.TheVariants.{Short}
use Rattle.h264_marking.specs.declared.frame.ReferenceFrame.{ReferenceFrame}
use Rattle.h264_marking.specs.declared.frame.Numbering.{Numbering}
use Rattle.h264_marking.specs.Frames.{References, frame_places, pic_num, has_frame_num, without_pic_num}

abbrev pub lesser : Option ℤ → Option ℤ → Option ℤ
lesser None b = b
lesser (Some a) None = Some a
lesser (Some a) (Some b) = Some (int_min a b)

-- the least FrameNumWrap of the short-term frames, if there are any
abbrev pub least_pic_num : Numbering → List ReferenceFrame → Option ℤ
least_pic_num current [] = None
least_pic_num current (f ∷ fs) = lesser (pic_num current f) (least_pic_num current fs)

-- Where all places are taken, the short-term frame with the least FrameNumWrap goes; there has to be one.
abbrev pub slide : Numbering → List ReferenceFrame → Option (List ReferenceFrame)
slide current frames =
    if nat_lt (length frames) (frame_places current.max_num_ref_frames) then Some frames
    else option_map (λ least. without_pic_num current least frames) (least_pic_num current frames)

-- the frame that a missing frame_num stands for, in which there is no picture
abbrev pub missing_frame : ℕ → ReferenceFrame
missing_frame frame_num = record { picture = None; frame_num = frame_num; term = Short }

-- a missing frame joins these, unless a short-term frame has its number
abbrev pub with_missing : ℕ → List ReferenceFrame → Option (List ReferenceFrame)
with_missing frame_num frames = if list_any (has_frame_num frame_num) frames then None else Some (frames ++ missing_frame frame_num ∷ [])

-- A missing frame_num, as the current one: the window slides, and its frame joins the held ones.
unfoldable pub filled : Numbering → References → Option References
filled missing refs = option_map (λ frames. record refs { frames = frames }) (option_and_then (with_missing missing.frame_num) (slide missing refs.frames))
