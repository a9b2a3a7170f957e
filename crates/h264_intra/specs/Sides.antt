-- The sides of a macroblock: which of them are available (Sides), and the samples there. A working form.
pub use Rattle.h264_intra.specs.declared.sides.Sides.{Sides}
use Rattle.std.specs.Prelude.{◌≡◌, ◌+◌, ◌<◌, IsTrue, ℕ, ◌-◌, ◌==◌, if◌then◌else◌, List, [], slice_index, Option, unwrap_or, ℤ}
use Rattle.h264_plane.specs.Clip.{IsIn}

-- a side with the corner before it
abbrev pub with_corner : ℕ → List ℕ → ℕ → ℕ
with_corner corner side k = if k == 0 then corner else slice_index side (k - 1)

-- the samples round a macroblock, of its sides as the code is given them
abbrev pub beside : Option (List ℕ) → Option (List ℕ) → Option ℕ → ℕ → ℕ → ℕ
beside left above corner x y =
    if y == 0 then with_corner (unwrap_or corner 0) (unwrap_or above []) x else slice_index (unwrap_or left []) (y - 1)

-- a, b and c of plane prediction are small
pub record IsGentle (a b c : ℤ) : Type 0 where
  pub base : IsIn 8160 a
  pub across : IsIn 16320 b
  pub down : IsIn 16320 c

-- two functions agree on the sides of n samples that are available
pub record SameSides (n : ℕ) (s : Sides) (p q : ℕ → ℕ → ℕ) : Type 0 where
  pub left : IsTrue s.left → (k : ℕ) → k < n → p 0 (k + 1) ≡ q 0 (k + 1)
  pub above : IsTrue s.above → (k : ℕ) → k < n → p (k + 1) 0 ≡ q (k + 1) 0
  pub corner : IsTrue s.corner → p 0 0 ≡ q 0 0
