-- Intra_4x4 blocks of a macroblock, constructed one after another. A working form.
use Rattle.std.specs.Prelude.{◌≡◌, ◌≢◌, ◌⊎◌, ℕ, ◌+◌, ◌*◌, ◌<◌, List, slice_index, ℤ, pos, ◌+ℤ◌}
use Rattle.h264_intra.specs.Luma4.{predicted4}
use Rattle.h264_intra.specs.declared.luma4.Intra4x4PredMode.{Intra4x4PredMode}
use Rattle.h264_plane.specs.Clip.{clip1}
use Rattle.h264_plane.specs.Blocks.{number_of}
use Rattle.h264_plane.specs.Places.{Grid}
use Rattle.h264_recon.specs.Blocks.{sides4_of}
use Rattle.h264_recon.specs.Constructed.{block_window, mode_at}
use Rattle.h264_recon.specs.Lines.{local}
use Rattle.h264_recon.specs.declared.macroblock.Available.{Available}
use Rattle.h264_recon.specs.declared.store.Store.{Store}

-- the place of a sample of the block at column x and row y of blocks, in a list row by row
abbrev pub place4 : ℕ → ℕ → ℕ → ℕ → ℕ
place4 x y i j = 16 * (4 * y + j) + (4 * x + i)

-- an Intra_4x4 macroblock: the modes of its blocks, the sides that its prediction may use, and the residual of each block, by its column and row of blocks
-- and then by row and column of samples
pub record Intra4 : Type 0 where
  pub modes : List Intra4x4PredMode
  pub available : Available
  pub residual : ℕ → ℕ → ℕ → ℕ → ℤ

abbrev pub intra4 : List Intra4x4PredMode → Available → (ℕ → ℕ → ℕ → ℕ → ℤ) → Intra4
intra4 modes a residual = record { modes = modes; available = a; residual = residual }

-- the sample of a block that is constructed from the samples s round the macroblock
abbrev pub sample4 : Intra4 → Grid → ℕ → ℕ → Grid
sample4 m s x y i j =
    clip1 (pos (predicted4 (mode_at m.modes x y) (sides4_of m.available x y) (block_window s x y) i j) +ℤ m.residual x y j i)

-- the blocks before number b are constructed
pub record AreMade4 (b : ℕ) (m : Intra4) (l : Store) (c : ℕ) (own : List ℕ) : Type 0 where
  pub each : (x y i j : ℕ) → x < 4 → y < 4 → i < 4 → j < 4 → number_of x y < b →
      slice_index own (place4 x y i j) ≡ sample4 m (local 16 l c own) x y i j

-- the samples f of a block are written, and each other one is kept
pub record IsPut4 (old new : List ℕ) (x y : ℕ) (f : Grid) : Type 0 where
  pub here : (i j : ℕ) → i < 4 → j < 4 → slice_index new (place4 x y i j) ≡ f i j
  pub kept : (u v i j : ℕ) → u < 4 → v < 4 → i < 4 → j < 4 → (u ≢ x) ⊎ (v ≢ y) → slice_index new (place4 u v i j) ≡ slice_index old (place4 u v i j)
