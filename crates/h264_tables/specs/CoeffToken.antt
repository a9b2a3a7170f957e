-- coeff_token (9.2.1, Table 9-5): the value is 4 * TotalCoeff + TrailingOnes. To be read beside the standard.
use Rattle.std.specs.Prelude.{List, [], ◌∷◌}
use Rattle.h264_base.specs.Table.{Row, row}

-- where nC is 0 or 1
unfoldable pub coeff_token_nc0 : List Row
coeff_token_nc0 =
    row 1 1 0 ∷
    row 6 5 4 ∷ row 2 1 5 ∷
    row 8 7 8 ∷ row 6 4 9 ∷ row 3 1 10 ∷
    row 9 7 12 ∷ row 8 6 13 ∷ row 7 5 14 ∷ row 5 3 15 ∷
    row 10 7 16 ∷ row 9 6 17 ∷ row 8 5 18 ∷ row 6 3 19 ∷
    row 11 7 20 ∷ row 10 6 21 ∷ row 9 5 22 ∷ row 7 4 23 ∷
    row 13 15 24 ∷ row 11 6 25 ∷ row 10 5 26 ∷ row 8 4 27 ∷
    row 13 11 28 ∷ row 13 14 29 ∷ row 11 5 30 ∷ row 9 4 31 ∷
    row 13 8 32 ∷ row 13 10 33 ∷ row 13 13 34 ∷ row 10 4 35 ∷
    row 14 15 36 ∷ row 14 14 37 ∷ row 13 9 38 ∷ row 11 4 39 ∷
    row 14 11 40 ∷ row 14 10 41 ∷ row 14 13 42 ∷ row 13 12 43 ∷
    row 15 15 44 ∷ row 15 14 45 ∷ row 14 9 46 ∷ row 14 12 47 ∷
    row 15 11 48 ∷ row 15 10 49 ∷ row 15 13 50 ∷ row 14 8 51 ∷
    row 16 15 52 ∷ row 15 1 53 ∷ row 15 9 54 ∷ row 15 12 55 ∷
    row 16 11 56 ∷ row 16 14 57 ∷ row 16 13 58 ∷ row 15 8 59 ∷
    row 16 7 60 ∷ row 16 10 61 ∷ row 16 9 62 ∷ row 16 12 63 ∷
    row 16 4 64 ∷ row 16 6 65 ∷ row 16 5 66 ∷ row 16 8 67 ∷
    []

-- where nC is 2 or 3
unfoldable pub coeff_token_nc2 : List Row
coeff_token_nc2 =
    row 2 3 0 ∷
    row 6 11 4 ∷ row 2 2 5 ∷
    row 6 7 8 ∷ row 5 7 9 ∷ row 3 3 10 ∷
    row 7 7 12 ∷ row 6 10 13 ∷ row 6 9 14 ∷ row 4 5 15 ∷
    row 8 7 16 ∷ row 6 6 17 ∷ row 6 5 18 ∷ row 4 4 19 ∷
    row 8 4 20 ∷ row 7 6 21 ∷ row 7 5 22 ∷ row 5 6 23 ∷
    row 9 7 24 ∷ row 8 6 25 ∷ row 8 5 26 ∷ row 6 8 27 ∷
    row 11 15 28 ∷ row 9 6 29 ∷ row 9 5 30 ∷ row 6 4 31 ∷
    row 11 11 32 ∷ row 11 14 33 ∷ row 11 13 34 ∷ row 7 4 35 ∷
    row 12 15 36 ∷ row 11 10 37 ∷ row 11 9 38 ∷ row 9 4 39 ∷
    row 12 11 40 ∷ row 12 14 41 ∷ row 12 13 42 ∷ row 11 12 43 ∷
    row 12 8 44 ∷ row 12 10 45 ∷ row 12 9 46 ∷ row 11 8 47 ∷
    row 13 15 48 ∷ row 13 14 49 ∷ row 13 13 50 ∷ row 12 12 51 ∷
    row 13 11 52 ∷ row 13 10 53 ∷ row 13 9 54 ∷ row 13 12 55 ∷
    row 13 7 56 ∷ row 14 11 57 ∷ row 13 6 58 ∷ row 13 8 59 ∷
    row 14 9 60 ∷ row 14 8 61 ∷ row 14 10 62 ∷ row 13 1 63 ∷
    row 14 7 64 ∷ row 14 6 65 ∷ row 14 5 66 ∷ row 14 4 67 ∷
    []

-- where nC is 4 to 7
unfoldable pub coeff_token_nc4 : List Row
coeff_token_nc4 =
    row 4 15 0 ∷
    row 6 15 4 ∷ row 4 14 5 ∷
    row 6 11 8 ∷ row 5 15 9 ∷ row 4 13 10 ∷
    row 6 8 12 ∷ row 5 12 13 ∷ row 5 14 14 ∷ row 4 12 15 ∷
    row 7 15 16 ∷ row 5 10 17 ∷ row 5 11 18 ∷ row 4 11 19 ∷
    row 7 11 20 ∷ row 5 8 21 ∷ row 5 9 22 ∷ row 4 10 23 ∷
    row 7 9 24 ∷ row 6 14 25 ∷ row 6 13 26 ∷ row 4 9 27 ∷
    row 7 8 28 ∷ row 6 10 29 ∷ row 6 9 30 ∷ row 4 8 31 ∷
    row 8 15 32 ∷ row 7 14 33 ∷ row 7 13 34 ∷ row 5 13 35 ∷
    row 8 11 36 ∷ row 8 14 37 ∷ row 7 10 38 ∷ row 6 12 39 ∷
    row 9 15 40 ∷ row 8 10 41 ∷ row 8 13 42 ∷ row 7 12 43 ∷
    row 9 11 44 ∷ row 9 14 45 ∷ row 8 9 46 ∷ row 8 12 47 ∷
    row 9 8 48 ∷ row 9 10 49 ∷ row 9 13 50 ∷ row 8 8 51 ∷
    row 10 13 52 ∷ row 9 7 53 ∷ row 9 9 54 ∷ row 9 12 55 ∷
    row 10 9 56 ∷ row 10 12 57 ∷ row 10 11 58 ∷ row 10 10 59 ∷
    row 10 5 60 ∷ row 10 8 61 ∷ row 10 7 62 ∷ row 10 6 63 ∷
    row 10 1 64 ∷ row 10 4 65 ∷ row 10 3 66 ∷ row 10 2 67 ∷
    []

-- where nC is 8 or more
unfoldable pub coeff_token_nc8 : List Row
coeff_token_nc8 =
    row 6 3 0 ∷
    row 6 0 4 ∷ row 6 1 5 ∷
    row 6 4 8 ∷ row 6 5 9 ∷ row 6 6 10 ∷
    row 6 8 12 ∷ row 6 9 13 ∷ row 6 10 14 ∷ row 6 11 15 ∷
    row 6 12 16 ∷ row 6 13 17 ∷ row 6 14 18 ∷ row 6 15 19 ∷
    row 6 16 20 ∷ row 6 17 21 ∷ row 6 18 22 ∷ row 6 19 23 ∷
    row 6 20 24 ∷ row 6 21 25 ∷ row 6 22 26 ∷ row 6 23 27 ∷
    row 6 24 28 ∷ row 6 25 29 ∷ row 6 26 30 ∷ row 6 27 31 ∷
    row 6 28 32 ∷ row 6 29 33 ∷ row 6 30 34 ∷ row 6 31 35 ∷
    row 6 32 36 ∷ row 6 33 37 ∷ row 6 34 38 ∷ row 6 35 39 ∷
    row 6 36 40 ∷ row 6 37 41 ∷ row 6 38 42 ∷ row 6 39 43 ∷
    row 6 40 44 ∷ row 6 41 45 ∷ row 6 42 46 ∷ row 6 43 47 ∷
    row 6 44 48 ∷ row 6 45 49 ∷ row 6 46 50 ∷ row 6 47 51 ∷
    row 6 48 52 ∷ row 6 49 53 ∷ row 6 50 54 ∷ row 6 51 55 ∷
    row 6 52 56 ∷ row 6 53 57 ∷ row 6 54 58 ∷ row 6 55 59 ∷
    row 6 56 60 ∷ row 6 57 61 ∷ row 6 58 62 ∷ row 6 59 63 ∷
    row 6 60 64 ∷ row 6 61 65 ∷ row 6 62 66 ∷ row 6 63 67 ∷
    []

-- of a chroma DC block, where nC is -1
unfoldable pub coeff_token_chroma_dc : List Row
coeff_token_chroma_dc =
    row 2 1 0 ∷
    row 6 7 4 ∷ row 1 1 5 ∷
    row 6 4 8 ∷ row 6 6 9 ∷ row 3 1 10 ∷
    row 6 3 12 ∷ row 7 3 13 ∷ row 7 2 14 ∷ row 6 5 15 ∷
    row 6 2 16 ∷ row 8 3 17 ∷ row 8 2 18 ∷ row 7 0 19 ∷
    []
