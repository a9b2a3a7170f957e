-- The samples of a plane and of a frame as lists, row by row. To be read beside the standard.
use Rattle.std.specs.Prelude.{ℕ, ◌/◌, List, map, ◌++◌}
use Rattle.std.specs.List.{range_with_len, flat_map}
use Rattle.h264_plane.specs.Places.{Grid}
use Rattle.h264_plane.specs.Samples.{at}
use Rattle.h264_plane.specs.Frames.{plane_of}
use Rattle.h264_plane.specs.declared.frame.Component.{Component}
use Rattle.h264_plane.specs.declared.frame.Component.TheVariants.{Y, Cb, Cr}
use Rattle.h264_plane.specs.declared.frame.Frame.{Frame}

-- the samples s of so many columns, from left to right
abbrev pub row_of : ℕ → (ℕ → ℕ) → List ℕ
row_of width s = map s (range_with_len 0 width)

-- the samples s, by column and row, of so many columns and rows
abbrev pub rows_of : ℕ → ℕ → Grid → List ℕ
rows_of width height s = flat_map (λ y. row_of width (λ x. s x y)) (range_with_len 0 height)

-- the bytes of a picture of this many luma columns and rows: the rows of Y, then those of Cb, then those of Cr
unfoldable pub picture_bytes : ℕ → ℕ → (Component → Grid) → List ℕ
picture_bytes width height s = rows_of width height (s Y) ++ rows_of (width / 2) (height / 2) (s Cb) ++ rows_of (width / 2) (height / 2) (s Cr)

-- the samples of a frame by component, column and row
abbrev pub samples_of : Frame → Component → ℕ → ℕ → ℕ
samples_of f c = at (plane_of c f)
