use Rattle.h264_cavlc.proofs.ShortWords.{six-found}
use Rattle.h264_cavlc.proofs.totals.six_bit_word.Goals as goal

pub returns : goal.returns
returns c = rw (c.from.ensures, c.from-2.ensures) (six-found c.args.total c.args.bits c.requires.some c.requires.few c.ranges.bits.fits)
