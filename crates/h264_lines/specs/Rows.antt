-- A picture in the parts in which it is written: its rows, those of Y, then of Cb, then of Cr; or its planes. To be read beside docs/OUTPUT.md.
use Rattle.std.specs.Prelude.{ℕ, ◌+◌, ◌-◌, ◌/◌, ◌==◌, ◌&&◌, nat_lt, Bool, true, false, List, if◌then◌else◌}
use Rattle.std.specs.List.{range_with_len, flat_map}
use Rattle.h264_plane.specs.declared.frame.Component.{Component}
use Rattle.h264_plane.specs.declared.frame.Component.TheVariants.{Y, Cb, Cr}
use Rattle.h264_plane.specs.Rows.{row_of, rows_of}
use Rattle.h264_dpb.specs.declared.entry.Rectangle.{Rectangle}
use Rattle.h264_lines.specs.declared.rows.TheConstants.{PLANES}

-- how many rows a picture of this many luma rows has in all planes
abbrev pub row_count : ℕ → ℕ
row_count height = height + height / 2 + height / 2

-- row k of a picture of this many luma columns and rows
abbrev pub row_at : ℕ → ℕ → (Component → ℕ → ℕ → ℕ) → ℕ → List ℕ
row_at width height s k =
    if nat_lt k height then row_of width (λ x. s Y x k)
    else if nat_lt k (height + height / 2) then row_of (width / 2) (λ x. s Cb x (k - height))
    else row_of (width / 2) (λ x. s Cr x (k - height - height / 2))

-- whether all columns of each plane are shown
abbrev pub shows_all_columns : Rectangle → Bool
shows_all_columns r = (r.left == 0) && (r.right == 0)

-- the rows of plane k of a picture of this many luma columns and rows
abbrev pub plane_at : ℕ → ℕ → (Component → ℕ → ℕ → ℕ) → ℕ → List ℕ
plane_at width height s k =
    if k == 0 then rows_of width height (s Y)
    else if k == 1 then rows_of (width / 2) (height / 2) (s Cb)
    else rows_of (width / 2) (height / 2) (s Cr)

-- how many parts there are: the planes, or the rows
abbrev pub part_count : (by_planes : Bool) → ℕ → ℕ
part_count true height = PLANES
part_count false height = row_count height

abbrev pub part_at : (by_planes : Bool) → ℕ → ℕ → (Component → ℕ → ℕ → ℕ) → ℕ → List ℕ
part_at true = plane_at
part_at false = row_at

-- the first n parts
abbrev pub parts_before : (by_planes : Bool) → ℕ → ℕ → (Component → ℕ → ℕ → ℕ) → ℕ → List ℕ
parts_before by_planes width height s n = flat_map (part_at by_planes width height s) (range_with_len 0 n)
