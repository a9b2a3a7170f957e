use Rattle.std.proofs.Common.{rules}
use Rattle.std.proofs.lemmas.Iterator.{YieldsList-from_chars}
use Rattle.std.proofs.lemmas.Iterator.Search.{all_from_yields_List}
use Rattle.h264_pages.specs.Reasons.{is_plain}
use Rattle.h264_pages.proofs.pages.reason.is_plain_whole.Goals as goal

pub returns : goal.returns
returns c = all_from_yields_List is_plain _ _ c.all.result c.all.ensures.ran (YieldsList-from_chars c.args.text.now c.utf8.text cc) (λ x b q k. search rules)
