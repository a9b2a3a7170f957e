-- What the pictures of a stream are decoded for: with frames, or for the verdict alone. A working form.
use Rattle.std.specs.Prelude.{◌≡◌, Bool, true, false, is_some, Option, Some}
use Rattle.h264_picture.specs.declared.frames.Frames.{Frames}
use Rattle.h264_picture.specs.declared.purpose.Purpose.{Purpose}
use Rattle.h264_picture.specs.declared.purpose.Purpose.TheVariants as purpose
use Rattle.h264_picture.specs.declared.sequence.Sequence.{Sequence}

abbrev pub makes_frames : Purpose → Bool
makes_frames purpose.Frames = true
makes_frames purpose.Verdict = false

-- the active sequence has frames where they are asked for, and there are older ones there alone
pub record IsFor (p : Purpose) (active : Option Sequence) (older : Option Frames) : Type 0 where
  pub now : (s : Sequence) → active ≡ Some s → is_some s.canvas ≡ makes_frames p
  pub before : is_some older ≡ true → makes_frames p ≡ true
