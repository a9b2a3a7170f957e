-- Clip3 from 0, and Clip1 for samples of 8 bits (5.7), and numbers on both sides of 0. To be read beside the standard.
use Rattle.std.specs.Prelude.{ℕ, min, ℤ, pos, negsuc, neg_ℤ, ◌≤ℤ◌}

-- Clip3(0, most, z)
abbrev pub clip : ℕ → ℤ → ℕ
clip most (pos n) = min n most
clip most (negsuc n) = 0

-- Clip1, of samples of 8 bits
abbrev pub clip1 : ℤ → ℕ
clip1 z = clip 255 z

-- a number lies in -n .. n
pub record IsIn (n : ℕ) (z : ℤ) : Type 0 where
  pub low : neg_ℤ (pos n) ≤ℤ z
  pub high : z ≤ℤ pos n
