-- run_before (9.2.3, Table 9-10): the value is run_before. To be read beside the standard.
use Rattle.std.specs.Prelude.{List, [], ◌∷◌}
use Rattle.h264_base.specs.Table.{Row, row}

-- run_before where zerosLeft is 1
unfoldable pub run_before_1 : List Row
run_before_1 =
    row 1 1 0 ∷ row 1 0 1 ∷
    []

-- run_before where zerosLeft is 2
unfoldable pub run_before_2 : List Row
run_before_2 =
    row 1 1 0 ∷ row 2 1 1 ∷ row 2 0 2 ∷
    []

-- run_before where zerosLeft is 3
unfoldable pub run_before_3 : List Row
run_before_3 =
    row 2 3 0 ∷ row 2 2 1 ∷ row 2 1 2 ∷ row 2 0 3 ∷
    []

-- run_before where zerosLeft is 4
unfoldable pub run_before_4 : List Row
run_before_4 =
    row 2 3 0 ∷ row 2 2 1 ∷ row 2 1 2 ∷ row 3 1 3 ∷ row 3 0 4 ∷
    []

-- run_before where zerosLeft is 5
unfoldable pub run_before_5 : List Row
run_before_5 =
    row 2 3 0 ∷ row 2 2 1 ∷ row 3 3 2 ∷ row 3 2 3 ∷ row 3 1 4 ∷ row 3 0 5 ∷
    []

-- run_before where zerosLeft is 6
unfoldable pub run_before_6 : List Row
run_before_6 =
    row 2 3 0 ∷ row 3 0 1 ∷ row 3 1 2 ∷ row 3 3 3 ∷ row 3 2 4 ∷ row 3 5 5 ∷ row 3 4 6 ∷
    []

-- run_before where zerosLeft is above 6
unfoldable pub run_before_7 : List Row
run_before_7 =
    row 3 7 0 ∷ row 3 6 1 ∷ row 3 5 2 ∷ row 3 4 3 ∷ row 3 3 4 ∷ row 3 2 5 ∷ row 3 1 6 ∷ row 4 1 7 ∷
    row 5 1 8 ∷ row 6 1 9 ∷ row 7 1 10 ∷ row 8 1 11 ∷ row 9 1 12 ∷ row 10 1 13 ∷ row 11 1 14 ∷
    []
