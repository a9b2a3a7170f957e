use Rattle.h264_cabac.proofs.Spellings.{one-value}
use Rattle.h264_cabac.proofs.laws.one_value.Goals as goal

pub returns : goal.returns
returns g c = λ tree bins more v w s t. one-value tree bins more v w s t
