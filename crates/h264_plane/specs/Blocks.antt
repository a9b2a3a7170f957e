-- The 4x4 luma blocks of a macroblock by their number (6.4.3, figure 6-10) and by their column and row of blocks. To be read beside the standard.
use Rattle.std.specs.Prelude.{ℕ, ◌+◌, ◌*◌, ◌/◌, ◌%◌}

-- the number of the block in column x and row y (6.4.13.1)
unfoldable pub number_of : ℕ → ℕ → ℕ
number_of x y = 8 * (y / 2) + 4 * (x / 2) + 2 * (y % 2) + x % 2

-- the column and the row of the block with this number, by the inverse 4x4 luma block scan (6.4.3)
unfoldable pub column_of : ℕ → ℕ
column_of b = 2 * (b / 4 % 2) + b % 2

unfoldable pub row_of : ℕ → ℕ
row_of b = 2 * (b / 8) + b / 2 % 2
