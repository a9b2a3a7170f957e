use Rattle.std.proofs.Common.{codes, subst}
use Rattle.h264_pages.specs.Pages.{Adds, text_field}
use Rattle.h264_pages.proofs.Growing.{three-added}
use Rattle.h264_pages.proofs.pages.info.put_profile_fields.Goals as goal

pub returns : goal.returns
returns c = three-added c.args.page.now c.number_field.new.self c.text_field.new.self c.number_field-2.new.self _ _ _ c.number_field.ensures
    (subst (λ t. Adds c.number_field.new.self c.text_field.new.self (text_field (codes "profile") t)) c.profile_of.ensures c.text_field.ensures)
    c.number_field-2.ensures
