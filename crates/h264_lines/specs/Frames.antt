-- What is shown of a frame, as bytes. To be read beside docs/OUTPUT.md.
use Rattle.std.specs.Prelude.{List, ℕ}
use Rattle.h264_plane.specs.Rows.{picture_bytes}
use Rattle.h264_plane.specs.declared.frame.Frame.{Frame}
use Rattle.h264_dpb.specs.Shown.{width_in, height_in, cropped}
use Rattle.h264_dpb.specs.declared.entry.Rectangle.{Rectangle}

-- the rows of Y, then those of Cb, then those of Cr
abbrev pub shown_bytes : Frame → Rectangle → List ℕ
shown_bytes f r = picture_bytes (width_in r f) (height_in r f) (cropped r f)
