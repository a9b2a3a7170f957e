-- Plane prediction (8.3.3.4, 8.3.4.4), of a block of twice `half` rows and columns. To be read beside the standard.
use Rattle.std.specs.Prelude.{ℕ, zero, suc, ◌+◌, ◌-◌, ◌*◌, ℤ, pos, ◌+ℤ◌, ◌-ℤ◌, ◌*ℤ◌}
use Rattle.std.specs.Int.{int_shr}
use Rattle.h264_plane.specs.Places.{Grid}
use Rattle.h264_plane.specs.Clip.{clip1}

-- the sum of f 0 to f (n - 1)
unfoldable pub total_z : ℕ → (ℕ → ℤ) → ℤ
total_z zero f = pos 0
total_z (suc n) f = total_z n f +ℤ f n

-- H, and V, of the samples q above and to the left, the corner at q 0
abbrev pub difference : ℕ → (ℕ → ℕ) → ℕ → ℤ
difference half q k = pos (k + 1) *ℤ (pos (q (half + 1 + k)) -ℤ pos (q (half - 1 - k)))

abbrev pub gradient : ℕ → (ℕ → ℕ) → ℤ
gradient half q = total_z half (difference half q)

-- b, and c
abbrev pub slope : ℕ → ℤ → (ℕ → ℕ) → ℤ
slope half weight q = int_shr (weight *ℤ gradient half q +ℤ pos 32) 6

-- the sample at (x, y), by a, b and c
abbrev pub plane_sample : ℕ → ℤ → ℤ → ℤ → ℕ → ℕ → ℕ
plane_sample half a b c x y =
    clip1 (int_shr (a +ℤ b *ℤ (pos x -ℤ pos (half - 1)) +ℤ c *ℤ (pos y -ℤ pos (half - 1)) +ℤ pos 16) 5)

unfoldable pub plane : ℕ → ℤ → Grid → Grid
plane half weight p x y =
    plane_sample half (pos (16 * (p 0 (2 * half) + p (2 * half) 0))) (slope half weight (λ k. p k 0)) (slope half weight (λ k. p 0 k)) x y
