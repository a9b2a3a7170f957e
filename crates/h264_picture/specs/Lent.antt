-- The frames that are lent, by place. A working form.
use Rattle.std.specs.Prelude.{◌≡◌, ◌≢◌, ℕ, ◌<◌, ◌==◌, ◌&&◌, Bool, true, nat_lt, Option, Some, None, List, length, if◌then◌else◌}
use Rattle.h264_plane.specs.Frames.{frame_at, IsFrame}
use Rattle.h264_plane.specs.declared.frame.Frame.{Frame}
use Rattle.h264_picture.specs.declared.canvas.Canvas.{Canvas}
use Rattle.h264_picture.specs.declared.frames.Frames.{Frames}

-- the frame at a place of a sequence, whether it was moved out or not
abbrev pub frame_within : Frames → ℕ → Frame
frame_within f k = if k == f.place then f.frame else frame_at f.pool k

-- each frame of a sequence is of this many luma samples
pub record AreFrames (width height : ℕ) (f : Frames) : Type 0 where
  pub each : (k : ℕ) → k < length f.pool → IsFrame (frame_within f k) width height

-- the frame at a place, but for the one of the picture that is begun
abbrev pub lent_within : Frames → ℕ → Option Frame
lent_within f k =
    if nat_lt k (length f.pool) then (if k == f.place && f.begun then None else Some (frame_within f k)) else None

abbrev pub lent_in : Option Frames → ℕ → Option Frame
lent_in None k = None
lent_in (Some f) k = lent_within f k

-- each frame that was lent is lent at its place
abbrev pub KeepsLent : Option Frames → Option Frames → Type 0
KeepsLent old new = (k : ℕ) → lent_in old k ≢ None → lent_in new k ≡ lent_in old k

-- the frames of a canvas, if there is one
abbrev pub frames_in : Option Canvas → Option Frames
frames_in None = None
frames_in (Some c) = Some c.frames

-- the place of the frame that is written
abbrev pub written_place : Option Canvas → ℕ
written_place None = 0
written_place (Some c) = c.frames.place

-- a picture is begun in that one
abbrev pub IsBegun : Option Canvas → Type 0
IsBegun None = Unit {0}
IsBegun (Some c) = c.frames.begun ≡ true

-- what stays of the frames while samples of one of them are written
pub record Rest : Type 0 where
  pub pool : List Frame
  pub place : ℕ
  pub begun : Bool

abbrev pub rest_of : Option Canvas → Option Rest
rest_of None = None
rest_of (Some c) = Some (record { pool = c.frames.pool; place = c.frames.place; begun = c.frames.begun })
