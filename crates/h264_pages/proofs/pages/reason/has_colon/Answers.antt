use Rattle.std.proofs.Common.{rules}
use Rattle.std.proofs.lemmas.Iterator.{YieldsList-from_chars}
use Rattle.std.proofs.lemmas.Iterator.Search.{any_from_yields_List}
use Rattle.h264_pages.specs.Reasons.{is_colon}
use Rattle.h264_pages.proofs.pages.reason.has_colon.Goals as goal

pub returns : goal.returns
returns c = any_from_yields_List is_colon _ _ c.any.result c.any.ensures.ran (YieldsList-from_chars c.args.name.now c.utf8.name cc) (λ x b q k. search rules)
