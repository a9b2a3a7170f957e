-- Rows by their columns. A working form.
use Rattle.std.specs.Prelude.{ℕ, List, [], ◌∷◌}
use Rattle.h264_base.specs.Table.{Row, row}

-- lengths, bits and values side by side, up to the end of the shortest column
abbrev pub rows_from : List ℕ → List ℕ → List ℕ → List Row
rows_from [] bits values = []
rows_from (l ∷ lengths) [] values = []
rows_from (l ∷ lengths) (b ∷ bits) [] = []
rows_from (l ∷ lengths) (b ∷ bits) (v ∷ values) = row l b v ∷ rows_from lengths bits values
