-- Prediction of the 16x16 luma samples of a macroblock (8.3.3). To be read beside the standard.
use Rattle.std.specs.Prelude.{ℕ, ◌+◌, Bool, true, ◌==◌, ◌&&◌, if◌then◌else◌, List, slice_index, is_some, pos}
use Rattle.h264_plane.specs.Places.{Grid}
use Rattle.h264_intra.specs.Filters.{total, mean}
use Rattle.h264_intra.specs.Sides.{Sides, beside}
use Rattle.h264_intra.specs.Slope.{plane, plane_sample}
use Rattle.h264_intra.specs.declared.slope.Plane.{Plane as Slopes}
use Rattle.h264_intra.specs.declared.luma16.Neighbours16.{Neighbours16}
use Rattle.h264_intra.specs.declared.luma16.Intra16x16PredMode.{Intra16x16PredMode}
use Rattle.h264_intra.specs.declared.luma16.Intra16x16PredMode.TheVariants.{Vertical, Horizontal, Dc, Plane}

-- ---- modes by number (table 8-4)

abbrev pub number16 : Intra16x16PredMode → ℕ
number16 Vertical = 0
number16 Horizontal = 1
number16 Dc = 2
number16 Plane = 3

-- the mode of a number; one above 3, which no mode has, counts as 3
abbrev pub mode16_of : ℕ → Intra16x16PredMode
mode16_of k = if k == 0 then Vertical else if k == 1 then Horizontal else if k == 2 then Dc else Plane

-- ---- the modes

-- whether there are the sides that a mode needs
abbrev pub is_possible16 : Intra16x16PredMode → Sides → Bool
is_possible16 Vertical s = s.above
is_possible16 Horizontal s = s.left
is_possible16 Dc s = true
is_possible16 Plane s = s.above && s.left && s.corner

-- the value of DC (8.3.3.3)
abbrev pub dc16 : Sides → Grid → ℕ
dc16 s p = mean 16 s.left s.above (total 16 (λ k. p 0 (k + 1))) (total 16 (λ k. p (k + 1) 0))

-- the predicted sample at column x of row y
unfoldable pub predicted16 : Intra16x16PredMode → Sides → Grid → Grid
predicted16 Vertical s p x y = p (x + 1) 0
predicted16 Horizontal s p x y = p 0 (y + 1)
predicted16 Dc s p x y = dc16 s p
predicted16 Plane s p x y = plane 8 (pos 5) p x y

-- ---- the neighbours that the code is given

abbrev pub sides16 : Neighbours16 → Sides
sides16 n = record { left = is_some n.left; above = is_some n.above; corner = is_some n.corner }

abbrev pub around16 : Neighbours16 → ℕ → ℕ → ℕ
around16 n = beside n.left n.above n.corner

-- what the code chooses by the mode's number (table 8-4); s are a, b and c of plane prediction
abbrev pub chosen16 : ℕ → List ℕ → List ℕ → ℕ → Slopes → Grid
chosen16 m left above flat s x y =
    if m == 0 then slice_index above x
    else if m == 1 then slice_index left y
    else if m == 2 then flat
    else plane_sample 8 s.a s.b s.c x y
