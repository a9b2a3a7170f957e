-- Where a sample of a frame that is shown stands, by its byte: plane, column, row and macroblock. To be read beside the standard.
use Rattle.std.specs.Prelude.{ℕ, ◌+◌, ◌-◌, ◌*◌, ◌/◌, ◌%◌, max, nat_lt, if◌then◌else◌}
use Rattle.h264_plane.specs.declared.frame.Component.{Component}
use Rattle.h264_plane.specs.declared.frame.Component.TheVariants.{Y, Cb, Cr}
use Rattle.h264_dpb.specs.Shown.{in_plane}
use Rattle.h264_compare.specs.declared.shown.ShownFrame.{ShownFrame}
use Rattle.h264_compare.specs.declared.shown.Place.{Place}

-- how many samples are shown of Y, and of each chroma plane (6.2)
abbrev pub luma : ShownFrame → ℕ
luma f = f.width * f.height

abbrev pub chroma : ShownFrame → ℕ
chroma f = f.width / 2 * (f.height / 2)

-- the plane of a byte of the frame's samples: Y stands first, then Cb, then Cr
abbrev pub plane_at : ShownFrame → ℕ → Component
plane_at f byte = if nat_lt byte (luma f) then Y else if nat_lt byte (luma f + chroma f) then Cb else Cr

-- the first byte of a plane
abbrev pub start_of : ShownFrame → Component → ℕ
start_of f Y = 0
start_of f Cb = luma f
start_of f Cr = luma f + chroma f

-- samples in a row of a plane. A plane without columns has no samples: then it does not matter.
abbrev pub row_length : ShownFrame → Component → ℕ
row_length f Y = max f.width 1
row_length f Cb = max (f.width / 2) 1
row_length f Cr = max (f.width / 2) 1

-- samples in a row of a macroblock, and as many in a column (6.2)
abbrev pub macroblock_size : Component → ℕ
macroblock_size Y = 16
macroblock_size Cb = 8
macroblock_size Cr = 8

-- The address of the macroblock of a sample (6.4.1). The column and row of what is shown begin at the cropping rectangle.
abbrev pub macroblock_at : ShownFrame → Component → (column row : ℕ) → ℕ
macroblock_at f c column row =
    (in_plane c f.top + row) / macroblock_size c * f.columns + (in_plane c f.left + column) / macroblock_size c

abbrev pub placed : ShownFrame → Component → (column row : ℕ) → Place
placed f c column row = record { plane = c; column = column; row = row; macroblock = macroblock_at f c column row }

-- the place of a byte of the frame's samples
abbrev pub place_at : ShownFrame → ℕ → Place
place_at f byte =
    let c = plane_at f byte in placed f c ((byte - start_of f c) % row_length f c) ((byte - start_of f c) / row_length f c)
