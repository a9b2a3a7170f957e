use Rattle.h264_cabac.proofs.Spellings.{bins-of}
use Rattle.h264_cabac.proofs.laws.bins_of_value.Goals as goal

pub returns : goal.returns
returns g c = λ tree d e v is. bins-of tree d e v is
