use Rattle.std.proofs.Common.{List, ℕ, Option, sym, subst}
use Rattle.std.specs.Option.{option_copied}
use Rattle.h264_pages.specs.Findings.{rule_in}
use Rattle.h264_pages.specs.Pages.{Adds}
use Rattle.h264_pages.specs.Places.{said_fields, whole_finding_fields}
use Rattle.h264_pages.proofs.Growing.{adds-nothing, verdict-front, verdict-whole}
use Rattle.h264_pages.proofs.pages.object.put_verdict_fields.Goals as goal

pub returns-in-Some-clause-whole : goal.returns-in-Some-clause-whole
returns-in-Some-clause-whole c =
    let b = c.put_answer_fields.new.page in
    let m = c.put_place.new.page in
    let n = c.put_guide.new.page in
    verdict-whole c.args.page.now b m n c.args.answer c.args.survey.now.unit c.args.finding c.args.guide c.put_answer_fields.ensures
    (subst (λ f. (words : Option (List ℕ)) × Adds b m (whole_finding_fields (option_copied f) c.args.survey.now.unit
    (rule_in c.args.answer) c.args.finding words)) c.file_in.ensures c.put_place.ensures)
    (subst (λ g. Adds m n (said_fields c.args.finding g)) (sym c.in-Some.is) c.put_guide.ensures)

pub returns-in_default-clause-whole : goal.returns-in_default-clause-whole
returns-in_default-clause-whole c =
    let b = c.put_answer_fields.new.page in
    let m = c.put_place.new.page in
    verdict-whole c.args.page.now b m m c.args.answer c.args.survey.now.unit c.args.finding c.args.guide c.put_answer_fields.ensures
    (subst (λ f. (words : Option (List ℕ)) × Adds b m (whole_finding_fields (option_copied f) c.args.survey.now.unit
    (rule_in c.args.answer) c.args.finding words)) c.file_in.ensures c.put_place.ensures)
    (subst (λ g. Adds m m (said_fields c.args.finding g)) (sym c.in_default.is) (adds-nothing m))

pub returns-in-Some-clause-place : goal.returns-in-Some-clause-place
returns-in-Some-clause-place c =
    let whole = returns-in-Some-clause-whole c in
    verdict-front c.args.page.now c.put_guide.new.page c.args.answer c.args.survey.now.unit c.args.finding c.args.guide whole.0 whole.1

pub returns-in_default-clause-place : goal.returns-in_default-clause-place
returns-in_default-clause-place c =
    let whole = returns-in_default-clause-whole c in
    verdict-front c.args.page.now c.put_place.new.page c.args.answer c.args.survey.now.unit c.args.finding c.args.guide whole.0 whole.1
