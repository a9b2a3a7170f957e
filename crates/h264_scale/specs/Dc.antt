-- The DC coefficients of Intra 16x16 luma and of chroma (8.5.10, 8.5.11). To be read beside the standard.
use Rattle.std.specs.Prelude.{◌≡◌, ℕ, ◌<◌, ◌+◌, ◌-◌, ◌*◌, ◌/◌, ◌%◌, ◌^◌, Bool, ◌&&◌, nat_le, if◌then◌else◌, List, [], ◌∷◌, get_or, ℤ, pos, negsuc, ◌+ℤ◌, ◌*ℤ◌}
use Rattle.std.specs.Int.{int_shr}
use Rattle.h264_scale.specs.Residual.{fits16, all_entries, coefficient, level_scale, pick}

-- ---- Intra 16x16 (8.5.10)

-- the matrix of the transform
abbrev pub hadamard : ℕ → ℕ → ℤ
hadamard i j =
    let one = pos 1 in let less = negsuc 0 in
    pick i (pick j one one one one) (pick j one one less less) (pick j one less less one) (pick j one less one less)

-- the product of two matrices
abbrev pub product4 : (ℕ → ℕ → ℤ) → (ℕ → ℕ → ℤ) → ℕ → ℕ → ℤ
product4 a b i j = a i 0 *ℤ b 0 j +ℤ a i 1 *ℤ b 1 j +ℤ a i 2 *ℤ b 2 j +ℤ a i 3 *ℤ b 3 j

-- f
abbrev pub f16_of : List ℤ → ℕ → ℕ → ℤ
f16_of levels = product4 (product4 hadamard (coefficient levels)) hadamard

-- dcY of an entry of f
unfoldable pub scaled_dc16 : ℕ → ℤ → ℤ
scaled_dc16 qp f =
    if nat_le 36 qp then f *ℤ pos (level_scale (qp % 6) 0 0) *ℤ pos (2 ^ (qp / 6 - 6))
    else int_shr (f *ℤ pos (level_scale (qp % 6) 0 0) +ℤ pos (2 ^ (5 - qp / 6))) (6 - qp / 6)

unfoldable pub dc16_at : List ℤ → ℕ → ℕ → ℕ → ℤ
dc16_at levels qp i j = scaled_dc16 qp (f16_of levels i j)

-- whether each f and each result is in range
unfoldable pub dc16_fits : List ℤ → ℕ → Bool
dc16_fits levels qp = all_entries fits16 (f16_of levels) && all_entries fits16 (dc16_at levels qp)

-- ---- chroma (8.5.11)

-- c: the levels row by row
abbrev pub chroma_coefficient : List ℤ → ℕ → ℕ → ℤ
chroma_coefficient levels i j = get_or levels (2 * i + j) (pos 0)

abbrev pub hadamard2 : ℕ → ℕ → ℤ
hadamard2 i j = let one = pos 1 in get_or (one ∷ get_or (one ∷ negsuc 0 ∷ []) j one ∷ []) i one

abbrev pub product2 : (ℕ → ℕ → ℤ) → (ℕ → ℕ → ℤ) → ℕ → ℕ → ℤ
product2 a b i j = a i 0 *ℤ b 0 j +ℤ a i 1 *ℤ b 1 j

-- f
abbrev pub f2_of : List ℤ → ℕ → ℕ → ℤ
f2_of levels = product2 (product2 hadamard2 (chroma_coefficient levels)) hadamard2

-- dcC of an entry of f
unfoldable pub scaled_dc2 : ℕ → ℤ → ℤ
scaled_dc2 qp f = int_shr (f *ℤ pos (level_scale (qp % 6) 0 0) *ℤ pos (2 ^ (qp / 6))) 5

unfoldable pub dc2_at : List ℤ → ℕ → ℕ → ℕ → ℤ
dc2_at levels qp i j = scaled_dc2 qp (f2_of levels i j)

abbrev pub all_entries2 : (ℤ → Bool) → (ℕ → ℕ → ℤ) → Bool
all_entries2 p m = p (m 0 0) && p (m 0 1) && p (m 1 0) && p (m 1 1)

-- a list has the entries of a matrix of two rows and columns, row by row
pub record HasEntries2 (list : List ℤ) (m : ℕ → ℕ → ℤ) : Type 0 where
  pub each : (i j : ℕ) → i < 2 → j < 2 → get_or list (2 * i + j) (pos 0) ≡ m i j

unfoldable pub dc2_fits : List ℤ → ℕ → Bool
dc2_fits levels qp = all_entries2 fits16 (f2_of levels) && all_entries2 fits16 (dc2_at levels qp)
