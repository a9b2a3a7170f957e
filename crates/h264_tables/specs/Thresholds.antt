-- The thresholds of the deblocking filter (8.7.2.2, Tables 8-16 and 8-17), by indexA or indexB from 0 to 51. To be read beside the standard.
use Rattle.std.specs.Prelude.{ℕ, List, [], ◌∷◌}
use Rattle.h264_tables.specs.declared.thresholds.Strength.{Strength}
use Rattle.h264_tables.specs.declared.thresholds.Strength.TheVariants.{One, Two, Three}

-- alpha' by indexA
unfoldable pub alpha_rows : List ℕ
alpha_rows =
    0 ∷ 0 ∷ 0 ∷ 0 ∷ 0 ∷ 0 ∷ 0 ∷ 0 ∷ 0 ∷ 0 ∷ 0 ∷ 0 ∷ 0 ∷ 0 ∷ 0 ∷ 0 ∷
    4 ∷ 4 ∷ 5 ∷ 6 ∷ 7 ∷ 8 ∷ 9 ∷ 10 ∷ 12 ∷ 13 ∷ 15 ∷ 17 ∷ 20 ∷ 22 ∷ 25 ∷ 28 ∷
    32 ∷ 36 ∷ 40 ∷ 45 ∷ 50 ∷ 56 ∷ 63 ∷ 71 ∷ 80 ∷ 90 ∷ 101 ∷ 113 ∷ 127 ∷ 144 ∷ 162 ∷ 182 ∷
    203 ∷ 226 ∷ 255 ∷ 255 ∷
    []

-- beta' by indexB
unfoldable pub beta_rows : List ℕ
beta_rows =
    0 ∷ 0 ∷ 0 ∷ 0 ∷ 0 ∷ 0 ∷ 0 ∷ 0 ∷ 0 ∷ 0 ∷ 0 ∷ 0 ∷ 0 ∷ 0 ∷ 0 ∷ 0 ∷
    2 ∷ 2 ∷ 2 ∷ 3 ∷ 3 ∷ 3 ∷ 3 ∷ 4 ∷ 4 ∷ 4 ∷ 6 ∷ 6 ∷ 7 ∷ 7 ∷ 8 ∷ 8 ∷
    9 ∷ 9 ∷ 10 ∷ 10 ∷ 11 ∷ 11 ∷ 12 ∷ 12 ∷ 13 ∷ 13 ∷ 14 ∷ 14 ∷ 15 ∷ 15 ∷ 16 ∷ 16 ∷
    17 ∷ 17 ∷ 18 ∷ 18 ∷
    []

-- t'C0 by indexA, for a bS of 1, of 2, and of 3
unfoldable pub tc0_rows : Strength → List ℕ
tc0_rows One =
    0 ∷ 0 ∷ 0 ∷ 0 ∷ 0 ∷ 0 ∷ 0 ∷ 0 ∷ 0 ∷ 0 ∷ 0 ∷ 0 ∷ 0 ∷ 0 ∷ 0 ∷ 0 ∷
    0 ∷ 0 ∷ 0 ∷ 0 ∷ 0 ∷ 0 ∷ 0 ∷ 1 ∷ 1 ∷ 1 ∷ 1 ∷ 1 ∷ 1 ∷ 1 ∷ 1 ∷ 1 ∷
    1 ∷ 2 ∷ 2 ∷ 2 ∷ 2 ∷ 3 ∷ 3 ∷ 3 ∷ 4 ∷ 4 ∷ 4 ∷ 5 ∷ 6 ∷ 6 ∷ 7 ∷ 8 ∷
    9 ∷ 10 ∷ 11 ∷ 13 ∷
    []
tc0_rows Two =
    0 ∷ 0 ∷ 0 ∷ 0 ∷ 0 ∷ 0 ∷ 0 ∷ 0 ∷ 0 ∷ 0 ∷ 0 ∷ 0 ∷ 0 ∷ 0 ∷ 0 ∷ 0 ∷
    0 ∷ 0 ∷ 0 ∷ 0 ∷ 0 ∷ 1 ∷ 1 ∷ 1 ∷ 1 ∷ 1 ∷ 1 ∷ 1 ∷ 1 ∷ 1 ∷ 1 ∷ 2 ∷
    2 ∷ 2 ∷ 2 ∷ 3 ∷ 3 ∷ 3 ∷ 4 ∷ 4 ∷ 5 ∷ 5 ∷ 6 ∷ 7 ∷ 8 ∷ 8 ∷ 10 ∷ 11 ∷
    12 ∷ 13 ∷ 15 ∷ 17 ∷
    []
tc0_rows Three =
    0 ∷ 0 ∷ 0 ∷ 0 ∷ 0 ∷ 0 ∷ 0 ∷ 0 ∷ 0 ∷ 0 ∷ 0 ∷ 0 ∷ 0 ∷ 0 ∷ 0 ∷ 0 ∷
    0 ∷ 1 ∷ 1 ∷ 1 ∷ 1 ∷ 1 ∷ 1 ∷ 1 ∷ 1 ∷ 1 ∷ 1 ∷ 2 ∷ 2 ∷ 2 ∷ 2 ∷ 3 ∷
    3 ∷ 3 ∷ 4 ∷ 4 ∷ 4 ∷ 5 ∷ 6 ∷ 6 ∷ 7 ∷ 8 ∷ 9 ∷ 10 ∷ 11 ∷ 13 ∷ 14 ∷ 16 ∷
    18 ∷ 20 ∷ 23 ∷ 25 ∷
    []
