-- To be read beside the standard. What the intra modes share (8.3). The samples round a block are p: p 0 0 is the standard's p[-1, -1], the sample above
-- and to the left of the block; p (x + 1) 0 is p[x, -1] and p 0 (y + 1) is p[-1, y].
use Rattle.std.specs.Prelude.{◌≡◌, ◌<◌, List, slice_index, ℕ, zero, suc, ◌+◌, ◌*◌, ◌/◌, Bool, ◌&&◌, if◌then◌else◌}

-- the weighted means of three and of two neighbours
abbrev pub f3 : ℕ → ℕ → ℕ → ℕ
f3 a b c = (a + 2 * b + c + 2) / 4

abbrev pub f2 : ℕ → ℕ → ℕ
f2 a b = (a + b + 1) / 2

-- the sum of f 0 to f (n - 1)
unfoldable pub total : ℕ → (ℕ → ℕ) → ℕ
total zero f = 0
total (suc n) f = total n f + f n

-- the mean of the two sides of n samples each, whose sums are l and a, of the side that there is, or 128
abbrev pub mean : ℕ → Bool → Bool → ℕ → ℕ → ℕ
mean n left above l a =
    if left && above then (l + a + n) / (2 * n)
    else if left then (l + n / 2) / n
    else if above then (a + n / 2) / n
    else 128

-- a list has the samples f of a block of n columns, row by row
pub record HasSamples (n : ℕ) (list : List ℕ) (f : ℕ → ℕ → ℕ) : Type 0 where
  pub each : (x y : ℕ) → x < n → y < n → slice_index list (n * y + x) ≡ f x y
