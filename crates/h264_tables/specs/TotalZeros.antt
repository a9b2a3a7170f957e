-- total_zeros (9.2.3, Tables 9-7, 9-8 and 9-9): the value is total_zeros. tzVlcIndex is TotalCoeff. To be read beside the standard.
use Rattle.std.specs.Prelude.{List, [], ◌∷◌}
use Rattle.h264_base.specs.Table.{Row, row}

-- total_zeros where tzVlcIndex is 1
unfoldable pub total_zeros_1 : List Row
total_zeros_1 =
    row 1 1 0 ∷ row 3 3 1 ∷ row 3 2 2 ∷ row 4 3 3 ∷ row 4 2 4 ∷ row 5 3 5 ∷ row 5 2 6 ∷ row 6 3 7 ∷
    row 6 2 8 ∷ row 7 3 9 ∷ row 7 2 10 ∷ row 8 3 11 ∷ row 8 2 12 ∷ row 9 3 13 ∷ row 9 2 14 ∷ row 9 1 15 ∷
    []

-- total_zeros where tzVlcIndex is 2
unfoldable pub total_zeros_2 : List Row
total_zeros_2 =
    row 3 7 0 ∷ row 3 6 1 ∷ row 3 5 2 ∷ row 3 4 3 ∷ row 3 3 4 ∷ row 4 5 5 ∷ row 4 4 6 ∷ row 4 3 7 ∷
    row 4 2 8 ∷ row 5 3 9 ∷ row 5 2 10 ∷ row 6 3 11 ∷ row 6 2 12 ∷ row 6 1 13 ∷ row 6 0 14 ∷
    []

-- total_zeros where tzVlcIndex is 3
unfoldable pub total_zeros_3 : List Row
total_zeros_3 =
    row 4 5 0 ∷ row 3 7 1 ∷ row 3 6 2 ∷ row 3 5 3 ∷ row 4 4 4 ∷ row 4 3 5 ∷ row 3 4 6 ∷ row 3 3 7 ∷
    row 4 2 8 ∷ row 5 3 9 ∷ row 5 2 10 ∷ row 6 1 11 ∷ row 5 1 12 ∷ row 6 0 13 ∷
    []

-- total_zeros where tzVlcIndex is 4
unfoldable pub total_zeros_4 : List Row
total_zeros_4 =
    row 5 3 0 ∷ row 3 7 1 ∷ row 4 5 2 ∷ row 4 4 3 ∷ row 3 6 4 ∷ row 3 5 5 ∷ row 3 4 6 ∷ row 4 3 7 ∷
    row 3 3 8 ∷ row 4 2 9 ∷ row 5 2 10 ∷ row 5 1 11 ∷ row 5 0 12 ∷
    []

-- total_zeros where tzVlcIndex is 5
unfoldable pub total_zeros_5 : List Row
total_zeros_5 =
    row 4 5 0 ∷ row 4 4 1 ∷ row 4 3 2 ∷ row 3 7 3 ∷ row 3 6 4 ∷ row 3 5 5 ∷ row 3 4 6 ∷ row 3 3 7 ∷
    row 4 2 8 ∷ row 5 1 9 ∷ row 4 1 10 ∷ row 5 0 11 ∷
    []

-- total_zeros where tzVlcIndex is 6
unfoldable pub total_zeros_6 : List Row
total_zeros_6 =
    row 6 1 0 ∷ row 5 1 1 ∷ row 3 7 2 ∷ row 3 6 3 ∷ row 3 5 4 ∷ row 3 4 5 ∷ row 3 3 6 ∷ row 3 2 7 ∷
    row 4 1 8 ∷ row 3 1 9 ∷ row 6 0 10 ∷
    []

-- total_zeros where tzVlcIndex is 7
unfoldable pub total_zeros_7 : List Row
total_zeros_7 =
    row 6 1 0 ∷ row 5 1 1 ∷ row 3 5 2 ∷ row 3 4 3 ∷ row 3 3 4 ∷ row 2 3 5 ∷ row 3 2 6 ∷ row 4 1 7 ∷
    row 3 1 8 ∷ row 6 0 9 ∷
    []

-- total_zeros where tzVlcIndex is 8
unfoldable pub total_zeros_8 : List Row
total_zeros_8 =
    row 6 1 0 ∷ row 4 1 1 ∷ row 5 1 2 ∷ row 3 3 3 ∷ row 2 3 4 ∷ row 2 2 5 ∷ row 3 2 6 ∷ row 3 1 7 ∷
    row 6 0 8 ∷
    []

-- total_zeros where tzVlcIndex is 9
unfoldable pub total_zeros_9 : List Row
total_zeros_9 =
    row 6 1 0 ∷ row 6 0 1 ∷ row 4 1 2 ∷ row 2 3 3 ∷ row 2 2 4 ∷ row 3 1 5 ∷ row 2 1 6 ∷ row 5 1 7 ∷
    []

-- total_zeros where tzVlcIndex is 10
unfoldable pub total_zeros_10 : List Row
total_zeros_10 =
    row 5 1 0 ∷ row 5 0 1 ∷ row 3 1 2 ∷ row 2 3 3 ∷ row 2 2 4 ∷ row 2 1 5 ∷ row 4 1 6 ∷
    []

-- total_zeros where tzVlcIndex is 11
unfoldable pub total_zeros_11 : List Row
total_zeros_11 =
    row 4 0 0 ∷ row 4 1 1 ∷ row 3 1 2 ∷ row 3 2 3 ∷ row 1 1 4 ∷ row 3 3 5 ∷
    []

-- total_zeros where tzVlcIndex is 12
unfoldable pub total_zeros_12 : List Row
total_zeros_12 =
    row 4 0 0 ∷ row 4 1 1 ∷ row 2 1 2 ∷ row 1 1 3 ∷ row 3 1 4 ∷
    []

-- total_zeros where tzVlcIndex is 13
unfoldable pub total_zeros_13 : List Row
total_zeros_13 =
    row 3 0 0 ∷ row 3 1 1 ∷ row 1 1 2 ∷ row 2 1 3 ∷
    []

-- total_zeros where tzVlcIndex is 14
unfoldable pub total_zeros_14 : List Row
total_zeros_14 =
    row 2 0 0 ∷ row 2 1 1 ∷ row 1 1 2 ∷
    []

-- total_zeros where tzVlcIndex is 15
unfoldable pub total_zeros_15 : List Row
total_zeros_15 =
    row 1 0 0 ∷ row 1 1 1 ∷
    []

-- total_zeros of a chroma DC block where tzVlcIndex is 1
unfoldable pub total_zeros_chroma_dc_1 : List Row
total_zeros_chroma_dc_1 =
    row 1 1 0 ∷ row 2 1 1 ∷ row 3 1 2 ∷ row 3 0 3 ∷
    []

-- total_zeros of a chroma DC block where tzVlcIndex is 2
unfoldable pub total_zeros_chroma_dc_2 : List Row
total_zeros_chroma_dc_2 =
    row 1 1 0 ∷ row 2 1 1 ∷ row 2 0 2 ∷
    []

-- total_zeros of a chroma DC block where tzVlcIndex is 3
unfoldable pub total_zeros_chroma_dc_3 : List Row
total_zeros_chroma_dc_3 =
    row 1 1 0 ∷ row 1 0 1 ∷
    []
