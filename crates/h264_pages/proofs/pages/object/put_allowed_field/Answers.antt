use Rattle.std.proofs.Common.{None, codes, sym, ◌∙◌}
use Rattle.h264_pages.specs.Findings.{rule_in}
use Rattle.h264_pages.specs.Pages.{text_field, text_on}
use Rattle.h264_pages.proofs.Growing.{nothing-allowed, words-allowed}
use Rattle.h264_pages.proofs.pages.object.put_allowed_field.Goals as goal

pub returns-in_default : goal.returns-in_default
returns-in_default c = (None, nothing-allowed c.args.page.now (text_field (codes "allowed")) (rule_in c.args.answer))

pub returns-in-Some : goal.returns-in-Some
returns-in-Some c = words-allowed c.args.page.now c.put_part.new.page (text_field (codes "allowed")) (rule_in c.args.answer) c.in-Some.rule _
    (text_on c.put_allowed.new.page) (sym c.rule_of.ensures ∙ c.in-Some.is) c.put_part.ensures.text
