use Rattle.std.proofs.Common.{List, ℕ, Option, None, sym, subst}
use Rattle.h264_pages.specs.Explanations.{explanation}
use Rattle.h264_pages.specs.Pages.{Adds}
use Rattle.h264_pages.proofs.Growing.{adds-nothing}
use Rattle.h264_pages.proofs.pages.explanation.put_explanation.Goals as goal

pub returns-in_default : goal.returns-in_default
returns-in_default c =
    let a = c.args.page.now in
    subst (λ f. (words : Option (List ℕ)) × Adds a a (explanation c.args.answer c.args.survey.now.unit f c.args.guide words)) (sym c.in_default.is)
    (None, adds-nothing a)

pub returns-in-Some : goal.returns-in-Some
returns-in-Some c =
    let a = c.args.page.now in
    let n = c.put_lines.new.page in
    subst (λ f. (words : Option (List ℕ)) × Adds a n (explanation c.args.answer c.args.survey.now.unit f c.args.guide words)) (sym c.in-Some.is)
    c.put_lines.ensures
