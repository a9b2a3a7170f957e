-- Samples round a macroblock that agree. A working form.
use Rattle.std.specs.Prelude.{◌≡◌, ℕ, ◌+◌, ◌*◌, ◌<◌, ◌≤◌, IsTrue}
use Rattle.h264_plane.specs.Blocks.{number_of}
use Rattle.h264_recon.specs.declared.macroblock.Available.{Available}

-- s and t, seen from a macroblock, agree at its sides that are available
pub record SidesAgree (n : ℕ) (a : Available) (s t : ℕ → ℕ → ℕ) : Type 0 where
  pub left : IsTrue a.left → (k : ℕ) → k < n → s 0 (k + 1) ≡ t 0 (k + 1)
  pub above : IsTrue a.above → (k : ℕ) → k < n → s (k + 1) 0 ≡ t (k + 1) 0
  pub above_right : IsTrue a.above_right → (k : ℕ) → k < 4 → s (n + k + 1) 0 ≡ t (n + k + 1) 0
  pub corner : IsTrue a.corner → s 0 0 ≡ t 0 0

-- and at its 4x4 blocks before number b
pub record BlocksAgree (n b : ℕ) (s t : ℕ → ℕ → ℕ) : Type 0 where
  pub each : (x y i j : ℕ) → 4 * x + 4 ≤ n → 4 * y + 4 ≤ n → i < 4 → j < 4 → number_of x y < b →
      s (4 * x + i + 1) (4 * y + j + 1) ≡ t (4 * x + i + 1) (4 * y + j + 1)
