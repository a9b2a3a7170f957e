-- What is shown of a frame: the cropping rectangle (7.4.2.1.1). To be read beside the standard.
use Rattle.std.specs.Prelude.{ℕ, ◌+◌, ◌*◌, ◌&&◌, nat_lt, Bool, Option, Some, None, if◌then◌else◌}
use Rattle.h264_sps.specs.declared.sps.Sps.{Sps}
use Rattle.h264_sps.specs.declared.sps.FrameSize.{FrameSize}
use Rattle.h264_sps.specs.declared.sps.FrameCropping.{FrameCropping}
use Rattle.h264_dpb.specs.declared.entry.Rectangle.{Rectangle}

-- all of a frame
abbrev pub whole : Rectangle
whole = record { left = 0; right = 0; top = 0; bottom = 0 }

-- so many chroma samples on two sides leave something of so many macroblocks
abbrev pub leaves : ℕ → ℕ → ℕ → Bool
leaves first second macroblocks = nat_lt (first + second) (8 * macroblocks)

-- The rectangle lies in the frame: in each set that some unit gives it does.
abbrev pub is_within : FrameCropping → FrameSize → Bool
is_within c size = leaves c.left c.right size.width && leaves c.top c.bottom size.height

abbrev pub rectangle_by : FrameSize → Option FrameCropping → Rectangle
rectangle_by size None = whole
rectangle_by size (Some c) = if is_within c size then record { left = c.left; right = c.right; top = c.top; bottom = c.bottom } else whole

unfoldable pub rectangle_of : Sps → Rectangle
rectangle_of sps = rectangle_by sps.frame_size sps.frame_cropping
