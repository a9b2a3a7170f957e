use Rattle.std.proofs.Common.{rules}
use Rattle.std.proofs.lemmas.Iterator.{YieldsList-from_chars}
use Rattle.std.proofs.lemmas.Iterator.Search.{all_from_yields_List}
use Rattle.h264_pages.specs.Reasons.{is_shown_as_it_is}
use Rattle.h264_pages.proofs.pages.reason.is_shown_whole.Goals as goal

pub returns : goal.returns
returns c =
    all_from_yields_List is_shown_as_it_is _ _ c.all.result c.all.ensures.ran (YieldsList-from_chars c.args.name.now c.utf8.name cc)
    (λ x b q k. search rules)
