-- Parts of the macroblocks of a picture by where they stand in it (6.4). To be read beside the standard.
use Rattle.std.specs.Prelude.{ℕ, zero, suc, ◌+◌, ◌*◌, ◌/◌, ◌%◌, nat_lt, List, [], ◌∷◌, ◌++◌, length, Option, None, if◌then◌else◌, slice_get}
use Rattle.std.specs.Option.{option_and_then}

-- what stands in each column and row, if anything does
abbrev pub ByPlace : Type 0 → Type 0
ByPlace B = ℕ → ℕ → Option B

-- What stands in column x and row y, both counted from 1, of a picture that is so many macroblocks wide, each of side by side parts:
-- nothing outside the picture, where no macroblock is decoded, and where this macroblock does not give the part.
unfoldable pub part_at : {M B : Type 0} → ℕ → (ℕ → ℕ → M → Option B) → ℕ → List M → ByPlace B
part_at side part width picture zero y = None
part_at side part width picture (suc x) zero = None
part_at side part width picture (suc x) (suc y) =
    if nat_lt x (width * side) then option_and_then (part (x % side) (y % side)) (slice_get picture (y / side * width + x / side))
    else None

-- What stands in column x and row y of the macroblock that is being decoded, after these: 1 to side are its own, 0 and side + 1 lie around it.
unfoldable pub around : {M B : Type 0} → ℕ → (ℕ → ℕ → M → Option B) → ℕ → List M → M → ByPlace B
around side part width picture current x y =
    part_at side part width (picture ++ current ∷ []) (length picture % width * side + x) (length picture / width * side + y)
