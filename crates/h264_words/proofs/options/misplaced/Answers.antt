use Rattle.std.proofs.Common.{rules}
use Rattle.h264_words.specs.declared.refusal.Misplaced.TheVariants as misplaced
use Rattle.h264_words.proofs.options.misplaced.Goals as goal

pub returns-clause-none : goal.returns-clause-none
returns-clause-none c given known is misplaced.Y4m h = search rules
returns-clause-none c given known is misplaced.Strict h = search rules
returns-clause-none c given known is misplaced.Brief h = search rules
returns-clause-none c given known is misplaced.Output h = search rules
returns-clause-none c given known is misplaced.Choice h = search rules
returns-clause-none c given known is misplaced.Explain h = search rules
returns-clause-none c given known is misplaced.BesideExplain h = search rules
