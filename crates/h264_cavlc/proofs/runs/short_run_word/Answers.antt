use Rattle.h264_cavlc.proofs.ShortWords.{short-found, short-long, short-none, short-small}
use Rattle.h264_cavlc.proofs.runs.short_run_word.Goals as goal

pub returns-clause-none : goal.returns-clause-none
returns-clause-none c none = rw (c.from.ensures, c.from-2.ensures) (short-none c.args.zeros_left c.args.bits none c.ranges.bits.fits)

pub returns-clause-word : goal.returns-clause-word
returns-clause-word c some other = rw (c.from.ensures, c.from-2.ensures)
    (short-found c.args.zeros_left c.args.bits some c.requires.few c.ranges.bits.fits (rw (c.from.ensures, c.from-2.ensures) at other))

pub returns-clause-long : goal.returns-clause-long
returns-clause-long c long = short-long c.args.zeros_left c.args.bits c.ranges.bits.fits (rw (c.from.ensures, c.from-2.ensures) at long)

pub returns-clause-small : goal.returns-clause-small
returns-clause-small c = rw (c.from.ensures, c.from-2.ensures) (short-small c.args.zeros_left c.args.bits c.requires.few c.ranges.bits.fits)
