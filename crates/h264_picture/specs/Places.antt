-- The places of the frames of two sequences, the active one and the one before. A working form.
use Rattle.std.specs.Prelude.{◌≡◌, ◌≢◌, ℕ, ◌+◌, ◌-◌, ◌*◌, nat_le, nat_lt, ◌&&◌, Bool, true, Option, Some, None, if◌then◌else◌}
use Rattle.std.specs.Option.{option_and_then, option_map_or}
use Rattle.h264_plane.specs.Frames.{IsFrame}
use Rattle.h264_plane.specs.declared.frame.Frame.{Frame}
use Rattle.h264_picture.specs.declared.canvas.Canvas.{Canvas}
use Rattle.h264_picture.specs.declared.frames.TheConstants.{PLACES}
use Rattle.h264_picture.specs.declared.purpose.Purpose.{Purpose}
use Rattle.h264_picture.specs.declared.purpose.Purpose.TheVariants as purpose
use Rattle.h264_picture.specs.declared.sequence.Sequence.{Sequence}
use Rattle.h264_picture.specs.declared.work.Work.{Work}
use Rattle.h264_picture.specs.Holds.{IsActive}
use Rattle.h264_picture.specs.Lent.{lent_in, frames_in}

-- what its pictures are decoded for
abbrev pub purpose_of : Work → Purpose
purpose_of work = work.purpose

-- their frames are made
abbrev pub MakesFrames : Work → Type 0
MakesFrames work = purpose_of work ≡ purpose.Frames

-- the first place of the active sequence, and how many it has
abbrev pub first_place : Work → ℕ
first_place work = work.base

abbrev pub places : Work → ℕ
places work = option_map_or (λ (s : Sequence). s.places) work.active 0

-- whether a place is one of the active sequence's
abbrev pub is_active_place : ℕ → ℕ → Bool
is_active_place base p = nat_le base p && nat_lt (p - base) PLACES

-- the frame that is lent at a place
abbrev pub lent : Work → ℕ → Option Frame
lent work p =
    if is_active_place work.base p then lent_in (option_and_then (λ (s : Sequence). frames_in s.canvas) work.active) (p - work.base)
    else lent_in work.older (p - (PLACES - work.base))

-- there are no frames of the sequence before the active one
abbrev pub IsReleased : Work → Type 0
IsReleased work = work.older ≡ None

-- a picture is begun in the frame at this place, where there are frames
abbrev pub HasBegunIn : (base place : ℕ) → Option Canvas → Type 0
HasBegunIn base place None = Unit {0}
HasBegunIn base place (Some c) = (c.frames.begun ≡ true) × (base + c.frames.place ≡ place)

-- a sequence is active, and so it is in its frames
abbrev pub HasBegun : ℕ → Work → Type 0
HasBegun place work = IsActive (λ (s : Sequence). HasBegunIn work.base place s.canvas) work.active

-- pictures are so many macroblocks wide and high
abbrev pub HasSize : ℕ → ℕ → Work → Type 0
HasSize width height work = IsActive (λ (s : Sequence). (s.across ≡ width) × (s.down ≡ height)) work.active

-- each frame that was lent, but for the one at this place, is lent at its place
abbrev pub KeepsOthers : ℕ → Work → Work → Type 0
KeepsOthers place old new = (p : ℕ) → p ≢ place → lent old p ≢ None → lent new p ≡ lent old p

-- each frame that was lent is lent at its place
abbrev pub KeepsFrames : Work → Work → Type 0
KeepsFrames old new = (p : ℕ) → lent old p ≢ None → lent new p ≡ lent old p

-- a frame of so many macroblocks in a row and in a column
abbrev pub IsFrameOf : ℕ → ℕ → Option Frame → Type 0
IsFrameOf width height None = ⊥
IsFrameOf width height (Some f) = IsFrame f (16 * width) (16 * height)
