use Rattle.std.proofs.Common.{sym, subst}
use Rattle.h264_pages.specs.Explanations.{guide_lines}
use Rattle.h264_pages.specs.Pages.{Adds}
use Rattle.h264_pages.proofs.pages.explanation.put_said.Goals as goal

pub returns-in-Some : goal.returns-in-Some
returns-in-Some c = subst (λ g. Adds c.args.page.now c.put_guide_lines.new.page (guide_lines c.args.reason g)) (sym c.in-Some.is) c.put_guide_lines.ensures
