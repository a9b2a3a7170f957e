-- The features' names. To be read beside the standard.
use Rattle.std.specs.Prelude.{ℕ, List, codes}
use Rattle.h264_base.specs.declared.stop.Feature.{Feature}
use Rattle.h264_base.specs.declared.stop.Feature.TheVariants.{Level6, UnitTooLong, InputTooLong}

unfoldable pub text_of : Feature → List ℕ
text_of Level6 = codes "Level6"
text_of UnitTooLong = codes "UnitTooLong"
text_of InputTooLong = codes "InputTooLong"
