-- To be read beside the standard. Places of a plane by macroblocks of n columns and rows, w to a row, in raster order (6.4.1). A macroblock is named by
-- its column c and its row r.
use Rattle.std.specs.Prelude.{◌≡◌, ◌⊎◌, ℕ, ◌+◌, ◌*◌, ◌<◌, ◌≤◌, ◌&&◌, nat_le, nat_lt, if◌then◌else◌}
use Rattle.h264_plane.specs.declared.frame.Component.{Component}
use Rattle.h264_plane.specs.declared.frame.Component.TheVariants.{Y, Cb, Cr}

-- a sample for each column and row
abbrev pub Grid : Type 0
Grid = ℕ → ℕ → ℕ

-- how many columns and rows of a plane a macroblock has in 4:2:0 (6.2): 16, or MbWidthC and MbHeightC
abbrev pub side : Component → ℕ
side Y = 16
side Cb = 8
side Cr = 8

-- the place (x, y) is one of a macroblock before this one
abbrev pub Before : ℕ → ℕ → ℕ → ℕ → ℕ → Type 0
Before n c r x y = (y < n * r) ⊎ ((y < n * r + n) × (x < n * c))

-- the place (x, y) is one of this macroblock or of a later one
abbrev pub After : ℕ → ℕ → ℕ → ℕ → ℕ → Type 0
After n c r x y = (n * r ≤ y) × ((n * r + n ≤ y) ⊎ (n * c ≤ x))

-- s and t agree at the places of the macroblocks before this one
pub record Agree (n w c r : ℕ) (s t : Grid) : Type 0 where
  pub each : (x y : ℕ) → x < n * w → Before n c r x y → s x y ≡ t x y

-- the samples s with those of u at this macroblock
unfoldable pub with_own : ℕ → ℕ → ℕ → Grid → Grid → Grid
with_own n c r u s x y =
    if nat_le (n * c) x && nat_lt x (n * c + n) && nat_le (n * r) y && nat_lt y (n * r + n) then u x y else s x y
