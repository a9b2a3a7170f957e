-- Samples of a plane by column and row. To be read beside the standard.
use Rattle.std.specs.Prelude.{◌≡◌, ◌≢◌, ◌⊎◌, ℕ, ◌+◌, ◌*◌, ◌<◌, ◌≤◌, ◌-◌, ◌==◌, ◌&&◌, nat_le, nat_lt, length, List, [], slice_index, Bool, true, false}
use Rattle.std.specs.Prelude.{if◌then◌else◌}
use Rattle.h264_plane.specs.Places.{Grid}
use Rattle.h264_plane.specs.declared.plane.TheConstants.{MAX_SIDE}

-- the samples of a plane, row by row
pub record Samples : Type 0 where
  pub width : ℕ
  pub height : ℕ
  pub list : List ℕ

-- the sample at column x of row y
abbrev pub at : Samples → Grid
at p x y = slice_index p.list (y * p.width + x)

-- the samples of a list, row by row
abbrev pub rows_of : ℕ → ℕ → List ℕ → Samples
rows_of width height list = record { width = width; height = height; list = list }

-- a plane of this many columns and rows can be kept as this many samples in one row
pub record IsKept (width height count : ℕ) : Type 0 where
  pub whole : count ≡ height * width
  pub wide : width ≤ MAX_SIDE
  pub tall : height ≤ MAX_SIDE

-- the plane of no samples
abbrev pub no_samples : Samples
no_samples = record { width = 0; height = 0; list = [] }

-- a plane of this many columns and rows
pub record IsSized (p : Samples) (width height : ℕ) : Type 0 where
  pub columns : p.width ≡ width
  pub rows : p.height ≡ height

-- each sample is 0
pub record IsBlank (p : Samples) : Type 0 where
  pub zero : (x y : ℕ) → x < p.width → y < p.height → at p x y ≡ 0

-- the plane `new` is of old's shape and has these samples, by column and row
pub record ShowsSamples (old new : Samples) (s : Grid) : Type 0 where
  pub width : new.width ≡ old.width
  pub height : new.height ≡ old.height
  pub samples : (u v : ℕ) → u < old.width → v < old.height → at new u v ≡ s u v

-- the sample at (x, y) is written, and each other one is kept
pub record IsSet (old new : Samples) (x y sample : ℕ) : Type 0 where
  pub width : new.width ≡ old.width
  pub height : new.height ≡ old.height
  pub written : at new x y ≡ sample
  pub kept : (u v : ℕ) → u < old.width → v < old.height → (u ≢ x) ⊎ (v ≢ y) → at new u v ≡ at old u v

-- An edge runs along columns or rows (8.7). At a vertical edge `along` is the row and `across` the column;
-- at a horizontal one `along` is the column and `across` the row.

-- how many places there are along an edge, and across it
abbrev pub size_along : Bool → Samples → ℕ
size_along vertical p = if vertical then p.height else p.width

abbrev pub size_across : Bool → Samples → ℕ
size_across vertical p = if vertical then p.width else p.height

-- the sample at these places along and across an edge
abbrev pub look : Bool → Samples → ℕ → ℕ → ℕ
look true p along across = at p across along
look false p along across = at p along across

-- the sample at these places is written, and each other one is kept
pub record IsPut (vertical : Bool) (old new : Samples) (along across sample : ℕ) : Type 0 where
  pub width : new.width ≡ old.width
  pub height : new.height ≡ old.height
  pub written : look vertical new along across ≡ sample
  pub kept : (a b : ℕ) → a < size_along vertical old → b < size_across vertical old → (a ≢ along) ⊎ (b ≢ across) →
      look vertical new a b ≡ look vertical old a b

-- the samples s with those of a run from column x of row y
unfoldable pub with_run : ℕ → ℕ → List ℕ → Grid → Grid
with_run x y run s u v =
    if v == y && nat_le x u && nat_lt u (x + length run) then slice_index run (u - x) else s u v

-- the samples s with those of a block of w columns and h rows, row by row, whose upper left one stands at (x, y)
unfoldable pub with_block : ℕ → ℕ → ℕ → ℕ → List ℕ → Grid → Grid
with_block w h x y block s u v =
    if nat_le x u && nat_lt u (x + w) && nat_le y v && nat_lt v (y + h) then slice_index block (w * (v - y) + (u - x)) else s u v
