-- te(v) of an element with the range 0 to 1: the inverted bit (9.1). To be read beside the standard.
use Rattle.std.specs.Prelude.{List, [], ◌∷◌}
use Rattle.h264_base.specs.Table.{Row, row}

unfoldable pub inverted_bit : List Row
inverted_bit = row 1 1 0 ∷ row 1 0 1 ∷ []
