use Rattle.h264_base.proofs.Words.{reads-one}
use Rattle.h264_bits.proofs.laws.one_word.Goals as goal

pub returns : goal.returns
returns c code bytes i v u j k r s = reads-one code bytes i v u j k r s
