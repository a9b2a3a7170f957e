-- Frames by their three planes. A working form.
use Rattle.std.specs.Prelude.{◌≡◌, ◌≢◌, ℕ, ◌/◌, ◌%◌, Bool, true, false, nat_lt, List, length, get_or, Option, Some, None, if◌then◌else◌}
use Rattle.std.specs.Borrow.{Lends, MutBor, Fml}
use Rattle.h264_plane.specs.Places.{Grid}
use Rattle.h264_plane.specs.Samples.{Samples, ShowsSamples, IsSized, no_samples}
use Rattle.h264_plane.specs.declared.frame.Component.{Component}
use Rattle.h264_plane.specs.declared.frame.Component.TheVariants.{Y, Cb, Cr}
use Rattle.h264_plane.specs.declared.frame.Frame.{Frame}
use Rattle.h264_plane.specs.contracts.plane.Plane as plane
use Rattle.h264_plane.specs.contracts.frame.Frame as frame

-- the plane of a component
abbrev pub plane_of : Component → Frame → Samples
plane_of Y f = f.y
plane_of Cb f = f.cb
plane_of Cr f = f.cr

-- f with another plane at a component
abbrev pub with_plane : Component → Frame → Samples → Frame
with_plane Y f p = record f { y = p }
with_plane Cb f p = record f { cb = p }
with_plane Cr f p = record f { cr = p }

-- f is a frame of this many luma samples in 4:2:0 (6.2), in whole macroblocks
pub record IsFrame (f : Frame) (width height : ℕ) : Type 0 where
  pub y : IsSized f.y width height
  pub cb : IsSized f.cb (width / 2) (height / 2)
  pub cr : IsSized f.cr (width / 2) (height / 2)
  pub columns : width % 16 ≡ 0
  pub rows : height % 16 ≡ 0

-- the planes but that of this component are what they were
abbrev pub KeepsOtherPlanes : Component → Frame → Frame → Type 0
KeepsOtherPlanes Y old new = (new.cb ≡ old.cb) × (new.cr ≡ old.cr)
KeepsOtherPlanes Cb old new = (new.y ≡ old.y) × (new.cr ≡ old.cr)
KeepsOtherPlanes Cr old new = (new.y ≡ old.y) × (new.cb ≡ old.cb)

-- the plane of component c has these samples, and the other two planes are what they were
pub record IsWritten (c : Component) (old new : Frame) (s : Grid) : Type 0 where
  pub written : ShowsSamples (plane_of c old) (plane_of c new) s
  pub kept : KeepsOtherPlanes c old new

-- f ends with the last plane after r at component c
abbrev pub LendsPlane : Component → MutBor Frame → MutBor Samples → Fml
LendsPlane c f r = Lends frame.the_row plane.the_row f r (with_plane c f.now)

-- a frame of no samples, which stands where a frame was taken out of its pool
abbrev pub no_frame : Frame
no_frame = record { y = no_samples; cb = no_samples; cr = no_samples }

-- the frame at a place of a pool
abbrev pub frame_at : List Frame → ℕ → Frame
frame_at frames place = get_or frames place no_frame

-- each frame but the one at this place is what it was
pub record KeepsOtherFrames (old new : List Frame) (place : ℕ) : Type 0 where
  pub count : length new ≡ length old
  pub kept : (k : ℕ) → k ≢ place → frame_at new k ≡ frame_at old k

-- the frames of a pool by place, where there is one
abbrev pub lent_by : List Frame → ℕ → Option Frame
lent_by frames place = if nat_lt place (length frames) then Some (frame_at frames place) else None

-- whether a plane is one of chroma
abbrev pub is_chroma : Component → Bool
is_chroma Y = false
is_chroma Cb = true
is_chroma Cr = true
