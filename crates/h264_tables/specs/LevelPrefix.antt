-- level_prefix (9.2.2.1): so many zeros and a 1, with at most 15 zeros in the profiles that are judged here. To be read beside the standard.
use Rattle.std.specs.Prelude.{ℕ, zero, suc, List, [], ◌∷◌}
use Rattle.h264_base.specs.Table.{Row, row}

-- n words, from the one of k zeros on
unfoldable pub prefix_rows : ℕ → ℕ → List Row
prefix_rows zero k = []
prefix_rows (suc n) k = row (suc k) 1 k ∷ prefix_rows n (suc k)

unfoldable pub level_prefix : List Row
level_prefix = prefix_rows 16 0
