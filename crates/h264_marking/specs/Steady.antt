-- The window once the frames of missing numbers have filled it, but for the long-term frames: the next ones change only its numbers. A working form.
use Rattle.std.specs.Prelude.{◌≡◌, ℕ, ◌+◌, ◌%◌, ◌<◌, ◌&&◌, ◌==◌, Bool, true, false, List, [], ◌∷◌, ◌++◌, map, length, if◌then◌else◌}
use Rattle.std.specs.Option.{is_none}
use Rattle.h264_marking.specs.declared.frame.ReferenceFrame.{ReferenceFrame}
use Rattle.h264_marking.specs.declared.frame.Numbering.{Numbering}
use Rattle.h264_marking.specs.Frames.{frame_places, is_short, has_frame_num}
use Rattle.h264_marking.specs.Window.{missing_frame}
use Rattle.h264_marking.specs.Gaps.{numbers_from}

-- it stands for this missing number
abbrev pub is_missing : ℕ → ReferenceFrame → Bool
is_missing number f = has_frame_num number f && is_none f.picture

-- these stand for the numbers after this one
abbrev pub are_missing : ℕ → ℕ → List ReferenceFrame → Bool
are_missing max_frame_num before [] = true
are_missing max_frame_num before (f ∷ fs) = is_missing ((before + 1) % max_frame_num) f && are_missing max_frame_num ((before + 1) % max_frame_num) fs

-- long-term frames, and after them so many short-term frames, which stand for the numbers after this one
abbrev pub is_window : ℕ → ℕ → ℕ → List ReferenceFrame → Bool
is_window max_frame_num before shorts [] = shorts == 0
is_window max_frame_num before shorts (f ∷ fs) =
    if is_short f.term then length (f ∷ fs) == shorts && are_missing max_frame_num before (f ∷ fs) else is_window max_frame_num before shorts fs

abbrev pub AreLong : List ReferenceFrame → Type 0
AreLong [] = Unit {0}
AreLong (f ∷ fs) = (is_short f.term ≡ false) × AreLong fs

-- the frames of so many missing numbers after this one
abbrev pub missing_after : Numbering → ℕ → ℕ → List ReferenceFrame
missing_after n count before = map missing_frame (numbers_from count ((before + 1) % n.max_frame_num) n.max_frame_num)

-- All places are taken: by long-term frames, and by the frames of some missing numbers up to this last one.
pub record IsSteady (n : Numbering) (last : ℕ) (frames : List ReferenceFrame) : Type 0 where
  pub longs : List ReferenceFrame
  pub before : ℕ
  pub shorts : ℕ
  pub are_long : AreLong longs
  pub frames_are : frames ≡ longs ++ missing_after n shorts before
  pub full : length frames ≡ frame_places n.max_num_ref_frames
  pub some : 0 < shorts
  pub few : shorts < n.max_frame_num
  pub within : before < n.max_frame_num
  pub last_is : last ≡ (before + shorts) % n.max_frame_num

-- a short-term frame has the number that lies so far after its own
abbrev pub moved : ℕ → ℕ → ReferenceFrame → ReferenceFrame
moved max_frame_num count f = if is_short f.term then record f { frame_num = (f.frame_num + count) % max_frame_num } else f
