-- What comes to pass as a stream is judged, frames among it, before anything is said of their samples. To be read beside the standard.
use Rattle.std.specs.Prelude.{◌≡◌, ℕ, ◌<◌, ◌≤◌, List, [], ◌∷◌, ◌++◌, length, Option, Some, None, IfSome}
use Rattle.h264_base.specs.Call.{Call, SinkSpan, span}
use Rattle.h264_base.specs.Body.{Body}
use Rattle.h264_base.specs.Grammar.{Element}
use Rattle.h264_base.specs.Run.{call_of}
use Rattle.h264_plane.specs.declared.frame.Frame.{Frame}
use Rattle.h264_dpb.specs.declared.entry.Entry.{Entry}
use Rattle.h264_dpb.specs.Turns.{Shown}
use Rattle.h264_dpb.specs.Kept.{shown_calls}
use Rattle.h264_picture.specs.declared.purpose.Purpose.{Purpose}
use Rattle.h264_picture.specs.declared.purpose.Purpose.TheVariants as purposes
use Rattle.h264_verify.specs.Pictures.{CodedPicture}
use Rattle.h264_verify.specs.Decoding.{IsDecoded}

pub data Told : Type 0 where
  -- a sink is told this
  Said : Call → Told
  -- the newest of these pictures has ended, and is decoded; a sink is not told so
  Decodes : List CodedPicture → Told
  -- a sink is told the frame of this picture
  Shows : Entry Shown → Told

abbrev pub said_of : Body → Element → Told
said_of body e = Said (call_of body e)

-- ---- with the frames of the pictures

-- the frames of the pictures, by their numbers in decoding order; none where no frames are made
abbrev pub Family : Type 0
Family = Option (ℕ → Frame)

-- there is a family of frames where pictures are decoded for their frames, and none where they are decoded for the verdict alone
abbrev pub IsFamilyFor : Purpose → Family → Type 0
IsFamilyFor purposes.Frames None = ⊥
IsFamilyFor purposes.Frames (Some frames) = Unit {0}
IsFamilyFor purposes.Verdict None = Unit {0}
IsFamilyFor purposes.Verdict (Some frames) = ⊥

-- what a sink is told of these frames; nothing, where no frames are made
abbrev pub calls_to_show : Family → List (Entry Shown) → List Call
calls_to_show None written = []
calls_to_show (Some frames) written = shown_calls frames written

-- what a sink is told
abbrev pub calls_of : Family → List Told → List Call
calls_of frames [] = []
calls_of frames (Said call ∷ told) = call ∷ calls_of frames told
calls_of frames (Decodes pictures ∷ told) = calls_of frames told
calls_of frames (Shows e ∷ told) = calls_to_show frames (e ∷ []) ++ calls_of frames told

-- the newest of these pictures has its frame, where frames are made
abbrev pub HasFrame : Family → List CodedPicture → Type 0
HasFrame frames [] = Unit {0}
HasFrame frames (p ∷ ps) = IfSome frames (λ f. IsDecoded f p ps (f (length ps)))

-- Each picture that has ended has its frame, where frames are made.
abbrev pub AreDecoded : Family → List Told → Type 0
AreDecoded frames [] = Unit {0}
AreDecoded frames (Said call ∷ told) = AreDecoded frames told
AreDecoded frames (Decodes pictures ∷ told) = HasFrame frames pictures × AreDecoded frames told
AreDecoded frames (Shows e ∷ told) = AreDecoded frames told

-- ---- a sink

-- With these frames a sink took what is told, and the pictures are decoded.
unfoldable pub took_with : {S : Type 0} → Family → (S → List Call → Type 0) → S → List Told → Type 0
took_with frames took s told = AreDecoded frames told × took s (calls_of frames told)

-- With these frames a sink's span, in what is told.
abbrev pub with_frames : {S : Type 0} → Family → SinkSpan S Call → SinkSpan S Told
with_frames frames w = span (took_with frames w.took) w.failures w.old w.new

-- A sink's span, and the frames of the pictures that had ended before it, by their numbers.
pub record FrameSpan (S : Type 0) : Type 1 where
  pub sink : SinkSpan S Call
  pub frames : Family

abbrev pub frame_span : {S : Type 0} → (S → List Call → Type 0) → (S → ℕ) → Family → S → S → FrameSpan S
frame_span took failures frames old new = record { sink = span took failures old new; frames = frames }

-- from old to new this was told, whatever was told before
pub record Tells {S : Type 0} (took : S → List Told → Type 0) (old new : S) (more : List Told) : Type 0 where
  pub told : (before : List Told) → took old before → took new (before ++ more)

-- only the first of this was told
pub record TellsFront {S : Type 0} (took : S → List Told → Type 0) (old new : S) (calls : List Told) : Type 0 where
  pub front : List Told
  pub rest : List Told
  pub whole : calls ≡ front ++ rest
  pub tells : Tells took old new front

-- ---- two families of frames

-- they have the same first frames, so many, or there are no frames in both
abbrev pub Agree : ℕ → Family → Family → Type 0
Agree n None None = Unit {0}
Agree n None (Some others) = ⊥
Agree n (Some frames) None = ⊥
Agree n (Some frames) (Some others) = (k : ℕ) → k < n → frames k ≡ others k

-- it is of the first pictures alone, so many
abbrev pub IsOf : ℕ → Told → Type 0
IsOf n (Said call) = Unit {0}
IsOf n (Decodes pictures) = length pictures ≤ n
IsOf n (Shows e) = e.of.picture < n

abbrev pub AreOf : ℕ → List Told → Type 0
AreOf n [] = Unit {0}
AreOf n (t ∷ told) = IsOf n t × AreOf n told
