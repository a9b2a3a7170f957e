-- A working form. The residual of a macroblock, added to its predicted samples block by block, and an error where a value of the transform is out of range.
use Rattle.std.specs.Prelude.{◌≡◌, ◌≢◌, ◌⊎◌, ◌↔◌, ℕ, ◌+◌, ◌*◌, ◌<◌, ◌≤◌, List, slice_index, Result, IsOk, IfOk, IsTrue, ℤ, pos, ◌+ℤ◌}
use Rattle.h264_plane.specs.Clip.{clip1}
use Rattle.h264_plane.specs.Places.{side}
use Rattle.h264_plane.specs.declared.frame.Component.{Component}
use Rattle.h264_scale.specs.Residual.{residual_at}
use Rattle.h264_scale.specs.Macroblock.{chroma_d, chroma_fits, residual}
use Rattle.h264_scale.specs.declared.levels.ChromaLevels.{ChromaLevels}
use Rattle.h264_scale.specs.declared.levels.Levels.{Levels}
use Rattle.h264_recon.specs.Lines.{samples_of}
use Rattle.h264_recon.specs.declared.store.Samples.{Samples}

-- ---- of a whole macroblock (8.5.14)

-- the residual of a plane is added to its samples
pub record IsAdded (l : Levels) (p : Component) (old new : List ℕ) : Type 0 where
  pub each : (x y : ℕ) → x < side p → y < side p → slice_index new (side p * y + x) ≡ clip1 (pos (slice_index old (side p * y + x)) +ℤ residual l p x y)

-- and that of all planes
abbrev pub AreAdded : Levels → Samples → Samples → Type 0
AreAdded l old new = (p : Component) → IsAdded l p (samples_of old p) (samples_of new p)

-- no plane has a residual
abbrev pub HasNoResidual : Levels → Type 0
HasNoResidual l = (p : Component) (x y : ℕ) → residual l p x y ≡ pos 0

-- ---- block by block, in a macroblock of n columns and rows

abbrev pub place : ℕ → ℕ → ℕ → ℕ → ℕ → ℕ
place n x y i j = n * (4 * y + j) + (4 * x + i)

-- the residual f of the block at column x and row y of blocks is added, and each other sample is kept
pub record IsBlockAdded (n : ℕ) (old new : List ℕ) (x y : ℕ) (f : ℕ → ℕ → ℤ) : Type 0 where
  pub here : (i j : ℕ) → i < 4 → j < 4 → slice_index new (place n x y i j) ≡ clip1 (pos (slice_index old (place n x y i j)) +ℤ f j i)
  pub kept : (u v i j : ℕ) → 4 * u + 4 ≤ n → 4 * v + 4 ≤ n → i < 4 → j < 4 → (u ≢ x) ⊎ (v ≢ y) →
      slice_index new (place n u v i j) ≡ slice_index old (place n u v i j)

-- the number of a chroma block
abbrev pub raster : ℕ → ℕ → ℕ
raster x y = 2 * y + x

-- the residuals f of the blocks before number b are added, and each sample of the others is kept
pub record AreBlocksAdded (n b : ℕ) (number : ℕ → ℕ → ℕ) (f : ℕ → ℕ → ℕ → ℕ → ℤ) (old new : List ℕ) : Type 0 where
  pub each : (x y i j : ℕ) → 4 * x + 4 ≤ n → 4 * y + 4 ≤ n → i < 4 → j < 4 → number x y < b →
      slice_index new (place n x y i j) ≡ clip1 (pos (slice_index old (place n x y i j)) +ℤ f x y j i)
  pub rest : (x y i j : ℕ) → 4 * x + 4 ≤ n → 4 * y + 4 ≤ n → i < 4 → j < 4 → b ≤ number x y →
      slice_index new (place n x y i j) ≡ slice_index old (place n x y i j)

-- ---- what is answered, and what is added

-- of a chroma plane, from these levels
pub record IsChromaOf {A E : Type 0} (qp : ℕ) (l : ChromaLevels) (answer : Result A E) (old new : List ℕ) : Type 0 where
  pub range : IsOk answer ↔ IsTrue (chroma_fits qp l)
  pub added : IfOk answer (λ u. AreBlocksAdded 8 4 raster (λ x y. residual_at (chroma_d qp l x y)) old new)
