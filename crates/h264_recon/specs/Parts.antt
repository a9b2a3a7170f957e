-- A macroblock whose samples are predicted part by part. A working form.
use Rattle.std.specs.Prelude.{◌≡◌, ℕ, ◌+◌, ◌*◌, ◌/◌, ◌<◌, ◌≤◌, List, length, slice_index}
use Rattle.h264_plane.specs.declared.frame.Component.TheVariants.{Y, Cb, Cr}
use Rattle.h264_plane.specs.declared.frame.Frame.{Frame}
use Rattle.h264_plane.specs.Places.{Grid}
use Rattle.h264_inter.specs.Reference.{HasBlock}
use Rattle.h264_recon.specs.Pool.{from_pool}
use Rattle.h264_recon.specs.declared.macroblock.Motion.{Motion}
use Rattle.h264_recon.specs.declared.macroblock.Position.{Position}
use Rattle.h264_recon.specs.declared.store.Samples.{Samples}

-- samples are written from a place on, and each other one is kept
pub record IsRun (old new : List ℕ) (start : ℕ) (run : List ℕ) : Type 0 where
  pub size : length new ≡ length old
  pub here : (k : ℕ) → k < length run → slice_index new (start + k) ≡ slice_index run k
  pub before : (k : ℕ) → k < start → slice_index new k ≡ slice_index old k
  pub after : (k : ℕ) → start + length run ≤ k → slice_index new k ≡ slice_index old k

-- a list has the samples f from column x and row y on
pub record HasPart (n : ℕ) (list : List ℕ) (x y : ℕ) (f : Grid) : Type 0 where
  pub each : (i j : ℕ) → i < n → j < n → slice_index list (n * j + i) ≡ f (x + i) (y + j)

-- a part of a macroblock: from column x and row y on, w columns and h rows
pub record PartPlace : Type 0 where
  pub x : ℕ
  pub y : ℕ
  pub w : ℕ
  pub h : ℕ

abbrev pub part_from : ℕ → ℕ → ℕ → ℕ → PartPlace
part_from x y w h = record { x = x; y = y; w = w; h = h }

-- s columns and rows have the samples f in this part of them, and each other sample is kept
pub record IsPart (s : ℕ) (part : PartPlace) (f : Grid) (old new : List ℕ) : Type 0 where
  pub here : (u v : ℕ) → part.x ≤ u → u < part.x + part.w → part.y ≤ v → v < part.y + part.h → slice_index new (s * v + u) ≡ f u v
  pub kept : (u v : ℕ) → u < s → v < s → (part.x ≤ u → u < part.x + part.w → part.y ≤ v → v < part.y + part.h → ⊥) →
      slice_index new (s * v + u) ≡ slice_index old (s * v + u)

-- The samples of a macroblock are predicted, as far as its first k 4x4 places go. The index of a place, by its column and row, says which are first.
pub record AreMade (index : ℕ → ℕ → ℕ) (k : ℕ) (frames : List Frame) (motion : List Motion) (here : Position) (own : Samples) : Type 0 where
  pub y : (u v : ℕ) → u < 16 → v < 16 → index (u / 4) (v / 4) < k → slice_index own.y (16 * v + u) ≡ from_pool frames motion here Y u v
  pub cb : (u v : ℕ) → u < 8 → v < 8 → index (u / 2) (v / 2) < k → slice_index own.cb (8 * v + u) ≡ from_pool frames motion here Cb u v
  pub cr : (u v : ℕ) → u < 8 → v < 8 → index (u / 2) (v / 2) < k → slice_index own.cr (8 * v + u) ≡ from_pool frames motion here Cr u v

-- all are
pub record ArePredicted (frames : List Frame) (motion : List Motion) (here : Position) (own : Samples) : Type 0 where
  pub y : HasBlock 16 16 own.y (from_pool frames motion here Y)
  pub cb : HasBlock 8 8 own.cb (from_pool frames motion here Cb)
  pub cr : HasBlock 8 8 own.cr (from_pool frames motion here Cr)
