-- To be read beside the standard. coded_block_pattern (9.1.2, Table 9-4, for chroma_format_idc 1): the Exp-Golomb word of each codeNum stands for a
-- pattern, the luma pattern and 16 times the chroma pattern.
use Rattle.std.specs.Prelude.{ℕ, suc, ◌+◌, ◌*◌, List, [], ◌∷◌, ◌++◌}
use Rattle.h264_base.specs.Table.{Row, row}

-- the words of k zeros, a 1 and k bits that spell the numbers from m on, which are the codeNums from m - 1 on, for these values (9.1)
unfoldable pub golomb_rows : ℕ → ℕ → List ℕ → List Row
golomb_rows k m [] = []
golomb_rows k m (value ∷ values) = row (2 * k + 1) m value ∷ golomb_rows k (suc m) values

-- where the macroblock is predicted by Intra_4x4
unfoldable pub coded_block_pattern_intra : List Row
coded_block_pattern_intra =
    golomb_rows 0 1 (47 ∷ []) ++
    golomb_rows 1 2 (31 ∷ 15 ∷ []) ++
    golomb_rows 2 4 (0 ∷ 23 ∷ 27 ∷ 29 ∷ []) ++
    golomb_rows 3 8 (30 ∷ 7 ∷ 11 ∷ 13 ∷ 14 ∷ 39 ∷ 43 ∷ 45 ∷ []) ++
    golomb_rows 4 16 (46 ∷ 16 ∷ 3 ∷ 5 ∷ 10 ∷ 12 ∷ 19 ∷ 21 ∷ 26 ∷ 28 ∷ 35 ∷ 37 ∷ 42 ∷ 44 ∷ 1 ∷ 2 ∷ []) ++
    golomb_rows 5 32 (4 ∷ 8 ∷ 17 ∷ 18 ∷ 20 ∷ 24 ∷ 6 ∷ 9 ∷ 22 ∷ 25 ∷ 32 ∷ 33 ∷ 34 ∷ 36 ∷ 40 ∷ 38 ∷ 41 ∷ [])

-- where it is predicted by Inter
unfoldable pub coded_block_pattern_inter : List Row
coded_block_pattern_inter =
    golomb_rows 0 1 (0 ∷ []) ++
    golomb_rows 1 2 (16 ∷ 1 ∷ []) ++
    golomb_rows 2 4 (2 ∷ 4 ∷ 8 ∷ 32 ∷ []) ++
    golomb_rows 3 8 (3 ∷ 5 ∷ 10 ∷ 12 ∷ 15 ∷ 47 ∷ 7 ∷ 11 ∷ []) ++
    golomb_rows 4 16 (13 ∷ 14 ∷ 6 ∷ 9 ∷ 31 ∷ 35 ∷ 37 ∷ 42 ∷ 44 ∷ 33 ∷ 34 ∷ 36 ∷ 40 ∷ 39 ∷ 43 ∷ 45 ∷ []) ++
    golomb_rows 5 32 (46 ∷ 17 ∷ 18 ∷ 20 ∷ 24 ∷ 19 ∷ 21 ∷ 26 ∷ 28 ∷ 23 ∷ 27 ∷ 29 ∷ 30 ∷ 22 ∷ 25 ∷ 38 ∷ 41 ∷ [])
