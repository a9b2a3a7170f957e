use Rattle.h264_base.proofs.Words.{reads-one}
use Rattle.h264_base.proofs.laws.one_word.Goals as goal

pub returns : goal.returns
returns c = λ code bytes i v w j k r s. reads-one code bytes i v w j k r s
