-- To be read beside the standard. The residual of a 4x4 block (8.5.6, 8.5.9, 8.5.12). A matrix is a function of the row i and the column j; its indices
-- are 0 to 3.
use Rattle.std.specs.Prelude.{◌≡◌, ℕ, ◌<◌, ◌+◌, ◌-◌, ◌*◌, ◌/◌, ◌%◌, ◌^◌, Bool, ◌&&◌, ◌==◌, nat_le, if◌then◌else◌, List, [], ◌∷◌, length, get_or, slice_index}
use Rattle.std.specs.Prelude.{ℤ, pos, negsuc, ◌+ℤ◌, ◌-ℤ◌, ◌*ℤ◌, int_le}
use Rattle.std.specs.Int.{int_shr}
use Rattle.std.specs.List.{position_or_len}
use Rattle.h264_plane.specs.Clip.{IsIn}

-- each number of a list does
pub record AreIn (n : ℕ) (list : List ℤ) : Type 0 where
  pub each : (k : ℕ) → k < length list → IsIn n (get_or list k (pos 0))

-- ---- the range of the transform: -2 ^ 15 .. 2 ^ 15 - 1

unfoldable pub fits16 : ℤ → Bool
fits16 z = int_le (negsuc 32767) z && int_le z (pos 32767)

-- of the last values, so that 32 can be added: -2 ^ 15 .. 2 ^ 15 - 33
unfoldable pub fits_last : ℤ → Bool
fits_last z = int_le (negsuc 32767) z && int_le z (pos 32735)

-- whether each entry passes
abbrev pub all4 : (ℕ → Bool) → Bool
all4 p = p 0 && p 1 && p 2 && p 3

abbrev pub all_entries : (ℤ → Bool) → (ℕ → ℕ → ℤ) → Bool
all_entries p m = all4 (λ i. all4 (λ j. p (m i j)))

-- ---- levels to coefficients: the zig-zag scan (8.5.6)

-- the entry, as 4 * row + column, at each place of the scan
abbrev pub zigzag : List ℕ
zigzag = 0 ∷ 1 ∷ 4 ∷ 8 ∷ 5 ∷ 2 ∷ 3 ∷ 6 ∷ 9 ∷ 12 ∷ 13 ∷ 10 ∷ 7 ∷ 11 ∷ 14 ∷ 15 ∷ []

-- the place of an entry
abbrev pub place_of : ℕ → ℕ → ℕ
place_of i j = position_or_len (λ k. k == 4 * i + j) zigzag

-- c
abbrev pub coefficient : List ℤ → ℕ → ℕ → ℤ
coefficient levels i j = get_or levels (place_of i j) (pos 0)

-- ---- scaling (8.5.9, 8.5.12.1)

-- the three columns of v
abbrev pub v0 : List ℕ
v0 = 10 ∷ 11 ∷ 13 ∷ 14 ∷ 16 ∷ 18 ∷ []

abbrev pub v1 : List ℕ
v1 = 16 ∷ 18 ∷ 20 ∷ 23 ∷ 25 ∷ 29 ∷ []

abbrev pub v2 : List ℕ
v2 = 13 ∷ 14 ∷ 16 ∷ 18 ∷ 20 ∷ 23 ∷ []

-- normAdjust4x4
abbrev pub norm_adjust : ℕ → ℕ → ℕ → ℕ
norm_adjust m i j =
    if i % 2 == 0 && j % 2 == 0 then slice_index v0 m
    else if i % 2 == 1 && j % 2 == 1 then slice_index v1 m
    else slice_index v2 m

-- LevelScale4x4, with the flat matrix of the profile
abbrev pub level_scale : ℕ → ℕ → ℕ → ℕ
level_scale m i j = 16 * norm_adjust m i j

-- d of an entry
unfoldable pub scaled : ℕ → ℕ → ℕ → ℤ → ℤ
scaled qp i j c =
    if nat_le 24 qp then c *ℤ pos (level_scale (qp % 6) i j) *ℤ pos (2 ^ (qp / 6 - 4))
    else int_shr (c *ℤ pos (level_scale (qp % 6) i j) +ℤ pos (2 ^ (3 - qp / 6))) (4 - qp / 6)

-- d of a block of 16 levels
abbrev pub d_of : List ℤ → ℕ → ℕ → ℕ → ℤ
d_of levels qp i j = scaled qp i j (coefficient levels i j)

-- d of a block of 15 levels, from the second place of the scan on, whose DC was scaled apart (8.5.2, 8.5.4)
abbrev pub d_with_dc : ℤ → List ℤ → ℕ → ℕ → ℕ → ℤ
d_with_dc dc levels qp i j = if i == 0 && j == 0 then dc else scaled qp i j (coefficient (dc ∷ levels) i j)

-- ---- transform (8.5.12.2)

-- one of four
abbrev pub pick : ℕ → ℤ → ℤ → ℤ → ℤ → ℤ
pick k x0 x1 x2 x3 = get_or (x0 ∷ x1 ∷ x2 ∷ x3 ∷ []) k (pos 0)

-- rows: e and f
abbrev pub e_of : (ℕ → ℕ → ℤ) → ℕ → ℕ → ℤ
e_of d i j = pick j (d i 0 +ℤ d i 2) (d i 0 -ℤ d i 2) (int_shr (d i 1) 1 -ℤ d i 3) (d i 1 +ℤ int_shr (d i 3) 1)

abbrev pub f_of : (ℕ → ℕ → ℤ) → ℕ → ℕ → ℤ
f_of e i j = pick j (e i 0 +ℤ e i 3) (e i 1 +ℤ e i 2) (e i 1 -ℤ e i 2) (e i 0 -ℤ e i 3)

-- columns: g and h
abbrev pub g_of : (ℕ → ℕ → ℤ) → ℕ → ℕ → ℤ
g_of f i j = pick i (f 0 j +ℤ f 2 j) (f 0 j -ℤ f 2 j) (int_shr (f 1 j) 1 -ℤ f 3 j) (f 1 j +ℤ int_shr (f 3 j) 1)

abbrev pub h_of : (ℕ → ℕ → ℤ) → ℕ → ℕ → ℤ
h_of g i j = pick i (g 0 j +ℤ g 3 j) (g 1 j +ℤ g 2 j) (g 1 j -ℤ g 2 j) (g 0 j -ℤ g 3 j)

-- r
unfoldable pub residual_at : (ℕ → ℕ → ℤ) → ℕ → ℕ → ℤ
residual_at d i j = int_shr (h_of (g_of (f_of (e_of d))) i j +ℤ pos 32) 6

-- whether each d, e, f, g and h is in range
unfoldable pub residual_fits : (ℕ → ℕ → ℤ) → Bool
residual_fits d =
    all_entries fits16 d && all_entries fits16 (e_of d) && all_entries fits16 (f_of (e_of d)) &&
    all_entries fits16 (g_of (f_of (e_of d))) && all_entries fits_last (h_of (g_of (f_of (e_of d))))

-- a list has the entries of a matrix, row by row
pub record HasEntries (list : List ℤ) (m : ℕ → ℕ → ℤ) : Type 0 where
  pub each : (i j : ℕ) → i < 4 → j < 4 → get_or list (4 * i + j) (pos 0) ≡ m i j
