-- Held reference frames, and their numbers (8.2.4.1). To be read beside the standard.
use Rattle.std.specs.Prelude.{ℕ, ℤ, pos, ◌-ℤ◌, nat_lt, ◌==◌, ◌&&◌, not, min, max, Bool, true, false, Option, Some, None, List, if◌then◌else◌}
use Rattle.std.specs.List.{filter}
use Rattle.std.specs.Option.{is_some}
use Rattle.std.specs.Ordering.{int_eq}
use Rattle.h264_marking.specs.declared.frame.Term.{Term}
use Rattle.h264_marking.specs.declared.frame.Term.TheVariants.{Short, Long}
use Rattle.h264_marking.specs.declared.frame.ReferenceFrame.{ReferenceFrame}
use Rattle.h264_marking.specs.declared.frame.Numbering.{Numbering}

-- The frames that are marked as used for reference, in the order of their marking, and MaxLongTermFrameIdx + 1: 0 where there
-- are no long-term frame indices.
pub record References : Type 0 where
  pub frames : List ReferenceFrame
  pub max_long_term_frame_idx_plus1 : ℕ

-- how many frames are held at most (7.4.2.1.1, 8.2.5.3); max_num_ref_frames is at most 16
abbrev pub frame_places : ℕ → ℕ
frame_places max_num_ref_frames = min (max max_num_ref_frames 1) 16

-- FrameNumWrap of a FrameNum, where a frame is current
abbrev pub frame_num_wrap : Numbering → ℕ → ℤ
frame_num_wrap current frame_num = if nat_lt current.frame_num frame_num then pos frame_num -ℤ pos current.max_frame_num else pos frame_num

-- PicNum of a short-term frame is its FrameNumWrap; a long-term frame has none
abbrev pub short_term_num : Term → ℤ → Option ℤ
short_term_num Short wrap = Some wrap
short_term_num (Long index) wrap = None

abbrev pub pic_num : Numbering → ReferenceFrame → Option ℤ
pic_num current f = short_term_num f.term (frame_num_wrap current f.frame_num)

-- LongTermPicNum of a long-term frame is its LongTermFrameIdx; a short-term frame has none
abbrev pub long_term_num : Term → Option ℕ
long_term_num Short = None
long_term_num (Long index) = Some index

abbrev pub long_term_pic_num : ReferenceFrame → Option ℕ
long_term_pic_num f = long_term_num f.term

abbrev pub is_pic_num : ℤ → Option ℤ → Bool
is_pic_num number None = false
is_pic_num number (Some n) = int_eq n number

abbrev pub is_index : ℕ → Option ℕ → Bool
is_index index None = false
is_index index (Some i) = i == index

-- it is a short-term frame with this PicNum
abbrev pub has_pic_num : Numbering → ℤ → ReferenceFrame → Bool
has_pic_num current number f = is_pic_num number (pic_num current f)

-- it is a long-term frame with this LongTermFrameIdx
abbrev pub has_index : ℕ → ReferenceFrame → Bool
has_index index f = is_index index (long_term_pic_num f)

-- it is a short-term frame with this FrameNum
abbrev pub is_short : Term → Bool
is_short Short = true
is_short (Long index) = false

abbrev pub has_frame_num : ℕ → ReferenceFrame → Bool
has_frame_num frame_num f = is_short f.term && f.frame_num == frame_num

-- there is a picture in it
abbrev pub is_existing : ReferenceFrame → Bool
is_existing f = is_some f.picture

abbrev pub without_pic_num : Numbering → ℤ → List ReferenceFrame → List ReferenceFrame
without_pic_num current number frames = filter (λ f. not (has_pic_num current number f)) frames

abbrev pub without_index : ℕ → List ReferenceFrame → List ReferenceFrame
without_index index frames = filter (λ f. not (has_index index f)) frames
