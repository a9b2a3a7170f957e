use Rattle.h264_cavlc.proofs.ShortWords.{token-found}
use Rattle.h264_cavlc.proofs.token_words.short_word.Goals as goal

pub returns : goal.returns
returns c = let e = c.first_entry.ensures in
    rw c.from.ensures (token-found c.args.nc c.first_entry.result c.args.bits c.ranges.bits.fits e.one e.three e.seven e.more)
