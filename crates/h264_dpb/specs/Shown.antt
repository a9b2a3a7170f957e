-- The frames that are lent by place, and what is shown of them: the cropping rectangle (7.4.2.1.1). A working form.
use Rattle.std.specs.Prelude.{ℕ, ◌+◌, ◌-◌, ◌*◌, ◌/◌, ◌==◌, ◌&&◌, nat_le, Bool, true, ℤ, Option, Some, None}
use Rattle.h264_base.specs.Call.{Call, OfFrame}
use Rattle.h264_plane.specs.Rows.{picture_bytes, samples_of}
use Rattle.h264_plane.specs.declared.frame.Frame.{Frame}
use Rattle.h264_plane.specs.declared.frame.Component.{Component}
use Rattle.h264_plane.specs.declared.frame.Component.TheVariants.{Y, Cb, Cr}
use Rattle.h264_dpb.specs.declared.entry.Placed.{Placed}
use Rattle.h264_dpb.specs.declared.entry.Rectangle.{Rectangle}

-- ---- the rectangle

-- how many luma samples it has in a row and in a column
abbrev pub width_in : Rectangle → Frame → ℕ
width_in r f = f.y.width - 2 * (r.left + r.right)

abbrev pub height_in : Rectangle → Frame → ℕ
height_in r f = f.y.height - 2 * (r.top + r.bottom)

-- so many chroma samples, as samples of a plane (CropUnitX and CropUnitY of 4:2:0)
abbrev pub in_plane : Component → ℕ → ℕ
in_plane Y n = 2 * n
in_plane Cb n = n
in_plane Cr n = n

-- the sample at column x and row y of the rectangle, in each plane
abbrev pub cropped : Rectangle → Frame → Component → ℕ → ℕ → ℕ
cropped r f c x y = samples_of f c (in_plane c r.left + x) (in_plane c r.top + y)

-- the planes of a frame are those of 4:2:0, and the rectangle lies in it
abbrev pub fits : Rectangle → Frame → Bool
fits r f =
    nat_le (2 * (r.left + r.right)) f.y.width && nat_le (2 * (r.top + r.bottom)) f.y.height
    && (f.cb.width == f.y.width / 2) && (f.cb.height == f.y.height / 2) && (f.cr.width == f.y.width / 2) && (f.cr.height == f.y.height / 2)

-- what a sink is told of a frame
abbrev pub frame_call : ℤ → Frame → Rectangle → Call
frame_call count f r = OfFrame count (width_in r f) (height_in r f) (picture_bytes (width_in r f) (height_in r f) (cropped r f))

-- ---- frames by place

abbrev pub fits_in : Rectangle → Option Frame → Bool
fits_in r None = true
fits_in r (Some f) = fits r f

-- the rectangle of a picture lies in the frame at its place, if one is lent there
abbrev pub is_shown : (ℕ → Option Frame) → Placed → Bool
is_shown lent n = fits_in n.rectangle (lent n.place)
