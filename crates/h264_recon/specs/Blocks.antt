-- The blocks of a macroblock, and which sides of them are available. To be read beside the standard.
use Rattle.std.specs.Prelude.{ℕ, ◌+◌, ◌-◌, Bool, ◌&&◌, ◌||◌, ◌==◌, if◌then◌else◌, nat_lt}
use Rattle.h264_plane.specs.Blocks.{number_of}
use Rattle.h264_intra.specs.declared.sides.Sides.{Sides}
use Rattle.h264_intra.specs.declared.sides.Sides4.{Sides4}
use Rattle.h264_recon.specs.declared.macroblock.Available.{Available}

-- the sides of a macroblock that intra prediction may use
abbrev pub sides_of : Available → Sides
sides_of a = record { left = a.left; above = a.above; corner = a.corner }

-- and those of its 4x4 block at column x and row y of blocks (6.4.11.4, 8.3.1.2): what lies in the macroblock is available where the block
-- there comes before this one in decoding order
unfoldable pub left_there : Available → ℕ → Bool
left_there a x = nat_lt 0 x || a.left

unfoldable pub above_there : Available → ℕ → Bool
above_there a y = nat_lt 0 y || a.above

unfoldable pub corner_there : Available → ℕ → ℕ → Bool
corner_there a x y = if x == 0 then (if y == 0 then a.corner else a.left) else above_there a y

unfoldable pub right_there : Available → ℕ → ℕ → Bool
right_there a x y =
    if y == 0 then (if x == 3 then a.above_right else a.above)
    else nat_lt x 3 && nat_lt (number_of (x + 1) (y - 1)) (number_of x y)

abbrev pub sides4_of : Available → ℕ → ℕ → Sides4
sides4_of a x y = record { left = left_there a x; above = above_there a y; above_right = right_there a x y; corner = corner_there a x y }
