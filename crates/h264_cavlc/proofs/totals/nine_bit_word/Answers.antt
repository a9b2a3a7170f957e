use Rattle.h264_cavlc.proofs.ShortWords.{nine-found}
use Rattle.h264_cavlc.proofs.totals.nine_bit_word.Goals as goal

pub returns : goal.returns
returns c = rw c.from-entry.ensures (nine-found c.args.bits c.ranges.bits.fits)
