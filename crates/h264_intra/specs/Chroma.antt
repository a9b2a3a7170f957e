-- Prediction of the 8x8 samples of a chroma plane of a macroblock (8.3.4). To be read beside the standard.
use Rattle.std.specs.Prelude.{ℕ, ◌+◌, ◌*◌, ◌/◌, Bool, true, ◌==◌, ◌&&◌, if◌then◌else◌, List, slice_index, is_some, pos}
use Rattle.h264_plane.specs.Places.{Grid}
use Rattle.h264_intra.specs.Filters.{total, mean}
use Rattle.h264_intra.specs.Sides.{Sides, beside}
use Rattle.h264_intra.specs.Slope.{plane, plane_sample}
use Rattle.h264_intra.specs.declared.slope.Plane.{Plane as Slopes}
use Rattle.h264_intra.specs.declared.chroma.NeighboursChroma.{NeighboursChroma}
use Rattle.h264_intra.specs.declared.chroma.IntraChromaPredMode.{IntraChromaPredMode}
use Rattle.h264_intra.specs.declared.chroma.IntraChromaPredMode.TheVariants.{Dc, Horizontal, Vertical, Plane}

-- ---- modes by number (table 8-5)

abbrev pub number_chroma : IntraChromaPredMode → ℕ
number_chroma Dc = 0
number_chroma Horizontal = 1
number_chroma Vertical = 2
number_chroma Plane = 3

-- the mode of a number; one above 3, which no mode has, counts as 3
abbrev pub mode_chroma_of : ℕ → IntraChromaPredMode
mode_chroma_of k = if k == 0 then Dc else if k == 1 then Horizontal else if k == 2 then Vertical else Plane

-- ---- the modes

-- whether there are the sides that a mode needs
abbrev pub is_possible_chroma : IntraChromaPredMode → Sides → Bool
is_possible_chroma Dc s = true
is_possible_chroma Horizontal s = s.left
is_possible_chroma Vertical s = s.above
is_possible_chroma Plane s = s.above && s.left && s.corner

-- the value of DC of the 4x4 block at column i and row j of blocks (8.3.4.1 to 8.3.4.3)
abbrev pub block_dc : Sides → Grid → ℕ → ℕ → ℕ
block_dc s p i j =
    let a = total 4 (λ k. p (4 * i + k + 1) 0) in
    let l = total 4 (λ k. p 0 (4 * j + k + 1)) in
    if i == j then mean 4 s.left s.above l a
    else if j == 0 then (if s.above then (a + 2) / 4 else if s.left then (l + 2) / 4 else 128)
    else if s.left then (l + 2) / 4 else if s.above then (a + 2) / 4 else 128

-- the predicted sample at column x of row y
unfoldable pub predicted_chroma : IntraChromaPredMode → Sides → Grid → Grid
predicted_chroma Dc s p x y = block_dc s p (x / 4) (y / 4)
predicted_chroma Horizontal s p x y = p 0 (y + 1)
predicted_chroma Vertical s p x y = p (x + 1) 0
predicted_chroma Plane s p x y = plane 4 (pos 34) p x y

-- ---- the neighbours that the code is given

abbrev pub sides_chroma : NeighboursChroma → Sides
sides_chroma n = record { left = is_some n.left; above = is_some n.above; corner = is_some n.corner }

abbrev pub around_chroma : NeighboursChroma → ℕ → ℕ → ℕ
around_chroma n = beside n.left n.above n.corner

-- what the code chooses by the mode's number (table 8-5); s are a, b and c of plane prediction
abbrev pub chosen_chroma : ℕ → List ℕ → List ℕ → List ℕ → Slopes → Grid
chosen_chroma m left above flats s x y =
    if m == 0 then slice_index flats (2 * (y / 4) + x / 4)
    else if m == 1 then slice_index left y
    else if m == 2 then slice_index above x
    else plane_sample 4 s.a s.b s.c x y
