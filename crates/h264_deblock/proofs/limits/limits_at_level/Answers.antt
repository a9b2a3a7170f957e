use Rattle.h264_deblock.proofs.Groups.{is_four}
use Rattle.h264_deblock.proofs.Levels.{strong-at, four-level, below-level, quarter-small}
use Rattle.h264_deblock.proofs.limits.limits_at_level.Goals as goal

pub returns-then-word-eq-FOUR-clause-here : goal.returns-then-word-eq-FOUR-clause-here
returns-then-word-eq-FOUR-clause-here g c e is named-by n i =
    four-level c.args.level.now e c.args.word.now _ _ n i is named-by (c.requires.word.all c.if-word-eq-FOUR.true) (strong-at n i)

pub returns-then-word-eq-FOUR-clause-all : goal.returns-then-word-eq-FOUR-clause-all
returns-then-word-eq-FOUR-clause-all g c z n i = is_four _ (strong-at n i)

pub returns-clause-here : goal.returns-clause-here
returns-clause-here g c e is named-by n i =
    below-level c.args.level.now e c.args.word.now _ _ n i is named-by (c.requires.word.below c.if-word-eq-FOUR.false _ (quarter-small _ n i))
    (c.numbers_below.ensures n i)
