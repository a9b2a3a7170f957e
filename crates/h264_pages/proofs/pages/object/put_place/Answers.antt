use Rattle.std.proofs.Common.{List, ℕ, Option, None, sym, subst}
use Rattle.std.specs.Option.{option_copied}
use Rattle.h264_pages.specs.Findings.{rule_in}
use Rattle.h264_pages.specs.Pages.{Adds}
use Rattle.h264_pages.specs.Places.{whole_finding_fields}
use Rattle.h264_pages.proofs.Growing.{adds-both, adds-nothing}
use Rattle.h264_pages.proofs.pages.object.put_place.Goals as goal

pub returns-in_default : goal.returns-in_default
returns-in_default c =
    let a = c.args.page.now in
    subst (λ f. (words : Option (List ℕ)) × Adds a a (whole_finding_fields (option_copied c.args.file) c.args.survey.now.unit (rule_in c.args.answer) f words))
    (sym c.in_default.is) (None, adds-nothing a)

pub returns-in-Some : goal.returns-in-Some
returns-in-Some c =
    let a = c.args.page.now in
    let m = c.put_finding.new.page in
    let n = c.put_allowed_field.new.page in
    let said = c.put_allowed_field.ensures in
    subst (λ f. (words : Option (List ℕ)) × Adds a n (whole_finding_fields (option_copied c.args.file) c.args.survey.now.unit (rule_in c.args.answer) f words))
    (sym c.in-Some.is) (said.0, adds-both a m n _ _ c.put_finding.ensures said.1)
