-- Matrices as the code keeps them: four rows of four numbers. A working form.
use Rattle.std.specs.Prelude.{Bool, ◌&&◌, ℕ, ◌≤◌, ◌+◌, ◌*◌, ◌/◌, ◌%◌, ◌^◌, List, [], ◌∷◌, ℤ, pos, negsuc, ◌+ℤ◌, ◌-ℤ◌, ◌*ℤ◌, ◌≤ℤ◌, unsigned_abs}
use Rattle.std.specs.Int.{int_shr}
use Rattle.h264_scale.specs.Residual.{fits16, fits_last, norm_adjust}
use Rattle.h264_scale.specs.declared.fours.Four.{Four}
use Rattle.h264_scale.specs.declared.fours.Block.{Block}
use Rattle.h264_plane.specs.Clip.{IsIn}

abbrev pub four : ℤ → ℤ → ℤ → ℤ → Four
four a b c d = record { a = a; b = b; c = c; d = d }

-- a matrix of one entry, the DC
abbrev pub dc_only : ℤ → Block
dc_only z =
    let none = four (pos 0) (pos 0) (pos 0) (pos 0) in
    record { r0 = four z (pos 0) (pos 0) (pos 0); r1 = none; r2 = none; r3 = none }

-- a block with another DC
abbrev pub with_dc : ℤ → Block → Block
with_dc z b = record b { r0 = record b.r0 { a = z } }

abbrev pub block_of : (ℕ → ℕ → ℤ) → Block
block_of m = record {
  r0 = four (m 0 0) (m 0 1) (m 0 2) (m 0 3);
  r1 = four (m 1 0) (m 1 1) (m 1 2) (m 1 3);
  r2 = four (m 2 0) (m 2 1) (m 2 2) (m 2 3);
  r3 = four (m 3 0) (m 3 1) (m 3 2) (m 3 3);
}

-- ---- bounds

-- each of the four lies in -n .. n
pub record IsWithin (n : ℕ) (v : Four) : Type 0 where
  pub a : IsIn n v.a
  pub b : IsIn n v.b
  pub c : IsIn n v.c
  pub d : IsIn n v.d

pub record AreWithin (n : ℕ) (b : Block) : Type 0 where
  pub r0 : IsWithin n b.r0
  pub r1 : IsWithin n b.r1
  pub r2 : IsWithin n b.r2
  pub r3 : IsWithin n b.r3

-- the sum of the numbers without their signs
abbrev pub four_size : Four → ℕ
four_size v = unsigned_abs v.a + unsigned_abs v.b + unsigned_abs v.c + unsigned_abs v.d

abbrev pub size : Block → ℕ
size m = four_size m.r0 + four_size m.r1 + four_size m.r2 + four_size m.r3

-- scaled coefficients so small that no value of the transform leaves its range
abbrev pub IsSmall : Block → Type 0
IsSmall d = size d ≤ 32735

-- a number of 16 bits, and rows of them
pub record IsShort (z : ℤ) : Type 0 where
  pub low : negsuc 32767 ≤ℤ z
  pub high : z ≤ℤ pos 32767

pub record IsShortFour (v : Four) : Type 0 where
  pub a : IsShort v.a
  pub b : IsShort v.b
  pub c : IsShort v.c
  pub d : IsShort v.d

pub record IsShortBlock (m : Block) : Type 0 where
  pub r0 : IsShortFour m.r0
  pub r1 : IsShortFour m.r1
  pub r2 : IsShortFour m.r2
  pub r3 : IsShortFour m.r3

-- ---- tests

unfoldable pub four_fits : Four → Bool
four_fits v = fits16 v.a && fits16 v.b && fits16 v.c && fits16 v.d

unfoldable pub block_fits : Block → Bool
block_fits m = four_fits m.r0 && four_fits m.r1 && four_fits m.r2 && four_fits m.r3

unfoldable pub four_fits_last : Four → Bool
four_fits_last v = fits_last v.a && fits_last v.b && fits_last v.c && fits_last v.d

unfoldable pub block_fits_last : Block → Bool
block_fits_last m = four_fits_last m.r0 && four_fits_last m.r1 && four_fits_last m.r2 && four_fits_last m.r3

-- ---- sums, column by column

abbrev pub plus : Four → Four → Four
plus v w = four (v.a +ℤ w.a) (v.b +ℤ w.b) (v.c +ℤ w.c) (v.d +ℤ w.d)

abbrev pub minus : Four → Four → Four
minus v w = four (v.a -ℤ w.a) (v.b -ℤ w.b) (v.c -ℤ w.c) (v.d -ℤ w.d)

abbrev pub half : Four → Four
half v = four (int_shr v.a 1) (int_shr v.b 1) (int_shr v.c 1) (int_shr v.d 1)

abbrev pub transposed : Block → Block
transposed m = record {
  r0 = four m.r0.a m.r1.a m.r2.a m.r3.a;
  r1 = four m.r0.b m.r1.b m.r2.b m.r3.b;
  r2 = four m.r0.c m.r1.c m.r2.c m.r3.c;
  r3 = four m.r0.d m.r1.d m.r2.d m.r3.d;
}

-- the first and the second step of the transform of columns
abbrev pub halves : Block → Block
halves m = record { r0 = plus m.r0 m.r2; r1 = minus m.r0 m.r2; r2 = minus (half m.r1) m.r3; r3 = plus m.r1 (half m.r3) }

abbrev pub joined : Block → Block
joined m = record { r0 = plus m.r0 m.r3; r1 = plus m.r1 m.r2; r2 = minus m.r1 m.r2; r3 = minus m.r0 m.r3 }

-- the columns of a matrix, each multiplied by the matrix of the DC transform
abbrev pub summed : Block → Block
summed m = record {
  r0 = plus (plus m.r0 m.r1) (plus m.r2 m.r3);
  r1 = minus (plus m.r0 m.r1) (plus m.r2 m.r3);
  r2 = minus (minus m.r0 m.r1) (minus m.r2 m.r3);
  r3 = plus (minus m.r0 m.r1) (minus m.r2 m.r3);
}

-- ---- the transform

abbrev pub block_e : Block → Block
block_e d = transposed (halves (transposed d))

abbrev pub block_f : Block → Block
block_f e = transposed (joined (transposed e))

unfoldable pub block_residual_fits : Block → Bool
block_residual_fits d =
    block_fits d && block_fits (block_e d) && block_fits (block_f (block_e d)) &&
    block_fits (halves (block_f (block_e d))) && block_fits_last (joined (halves (block_f (block_e d))))

abbrev pub rounded : ℤ → ℤ
rounded h = int_shr (h +ℤ pos 32) 6

abbrev pub rounded_row : Four → List ℤ → List ℤ
rounded_row v rest = rounded v.a ∷ rounded v.b ∷ rounded v.c ∷ rounded v.d ∷ rest

abbrev pub rounded_block : Block → List ℤ
rounded_block h = rounded_row h.r0 (rounded_row h.r1 (rounded_row h.r2 (rounded_row h.r3 [])))

unfoldable pub block_residual : Block → List ℤ
block_residual d = rounded_block (joined (halves (block_f (block_e d))))

-- ---- scaling

-- what a coefficient is multiplied by
abbrev pub factor_at : ℕ → ℕ → ℕ → ℕ
factor_at qp i j = norm_adjust (qp % 6) i j * 2 ^ (qp / 6)

abbrev pub scaled_row : ℕ → ℕ → Four → Four
scaled_row qp i v = four (v.a *ℤ pos (factor_at qp i 0)) (v.b *ℤ pos (factor_at qp i 1)) (v.c *ℤ pos (factor_at qp i 2)) (v.d *ℤ pos (factor_at qp i 3))

abbrev pub scaled_block : ℕ → Block → Block
scaled_block qp m = record { r0 = scaled_row qp 0 m.r0; r1 = scaled_row qp 1 m.r1; r2 = scaled_row qp 2 m.r2; r3 = scaled_row qp 3 m.r3 }

-- ---- DC coefficients

-- both steps of the DC transform
abbrev pub hadamard_block : Block → Block
hadamard_block m = transposed (summed (transposed (summed m)))

abbrev pub dc_scaled : ℕ → ℤ → ℤ
dc_scaled factor z = int_shr (z *ℤ pos factor +ℤ pos 2) 2

abbrev pub dc_four : ℕ → Four → Four
dc_four factor v = four (dc_scaled factor v.a) (dc_scaled factor v.b) (dc_scaled factor v.c) (dc_scaled factor v.d)

abbrev pub dc_block : ℕ → Block → Block
dc_block factor m = record { r0 = dc_four factor m.r0; r1 = dc_four factor m.r1; r2 = dc_four factor m.r2; r3 = dc_four factor m.r3 }

abbrev pub row_then : Four → List ℤ → List ℤ
row_then v rest = v.a ∷ v.b ∷ v.c ∷ v.d ∷ rest

abbrev pub rows_of : Block → List ℤ
rows_of m = row_then m.r0 (row_then m.r1 (row_then m.r2 (row_then m.r3 [])))

unfoldable pub block_dc_fits : ℕ → Block → Bool
block_dc_fits factor c = block_fits (hadamard_block c) && block_fits (dc_block factor (hadamard_block c))

unfoldable pub block_dc : ℕ → Block → List ℤ
block_dc factor c = rows_of (dc_block factor (hadamard_block c))

-- ---- chroma DC coefficients: the two rows of a matrix, one after the other

abbrev pub matrix_four : (ℕ → ℕ → ℤ) → Four
matrix_four m = four (m 0 0) (m 0 1) (m 1 0) (m 1 1)

abbrev pub corners : Four → Four
corners v = four ((v.a +ℤ v.b) +ℤ (v.c +ℤ v.d)) ((v.a -ℤ v.b) +ℤ (v.c -ℤ v.d)) ((v.a +ℤ v.b) -ℤ (v.c +ℤ v.d)) ((v.a -ℤ v.b) -ℤ (v.c -ℤ v.d))

abbrev pub dc2_scaled : ℕ → ℤ → ℤ
dc2_scaled factor z = int_shr (z *ℤ pos factor) 1

abbrev pub dc2_four : ℕ → Four → Four
dc2_four factor v = four (dc2_scaled factor v.a) (dc2_scaled factor v.b) (dc2_scaled factor v.c) (dc2_scaled factor v.d)

unfoldable pub four_dc_fits : ℕ → Four → Bool
four_dc_fits factor c = four_fits (corners c) && four_fits (dc2_four factor (corners c))

unfoldable pub four_dc : ℕ → Four → List ℤ
four_dc factor c = row_then (dc2_four factor (corners c)) []
