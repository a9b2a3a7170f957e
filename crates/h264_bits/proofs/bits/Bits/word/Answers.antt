use Rattle.h264_bits.proofs.bits.Bits.word.Goals as goal

pub returns-clause-none : goal.returns-clause-none
returns-clause-none c = rw c.next_16-front.ensures.kept at c.entry.ensures.none
