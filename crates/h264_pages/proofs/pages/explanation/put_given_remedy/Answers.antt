use Rattle.std.proofs.Common.{sym, subst}
use Rattle.std.specs.Option.{option_copied}
use Rattle.h264_pages.specs.Explanations.{given_remedy_line}
use Rattle.h264_pages.specs.Pages.{Adds}
use Rattle.h264_pages.proofs.pages.explanation.put_given_remedy.Goals as goal

pub returns-in-Some : goal.returns-in-Some
returns-in-Some c =
    subst (λ r. Adds c.args.page.now c.put_remedy_line.new.page (given_remedy_line (option_copied c.args.file) r)) (sym c.in-Some.is)
    c.put_remedy_line.ensures
