use Rattle.std.proofs.Common.{ap, sym, subst}
use Rattle.std.specs.Option.{option_copied}
use Rattle.h264_pages.specs.Pages.{Adds}
use Rattle.h264_pages.specs.Reasons.{remedied_fields}
use Rattle.h264_pages.proofs.Growing.{adds-both, adds-no_more, four-added}
use Rattle.h264_pages.proofs.pages.object.put_finding.Goals as goal

pub returns-in_default : goal.returns-in_default
returns-in_default c =
    adds-no_more c.args.page.now c.bool_field.new.self _ _ (ap (remedied_fields (option_copied c.args.file)) c.in_default.is)
    (four-added c.args.page.now c.put_bit.new.page c.put_picture.new.page c.put_element_found.new.page c.bool_field.new.self _ _ _ _ c.put_bit.ensures
    c.put_picture.ensures c.put_element_found.ensures c.bool_field.ensures)

pub returns-in-Some : goal.returns-in-Some
returns-in-Some c =
    let m = c.bool_field.new.self in
    let n = c.put_reason.new.page in
    adds-both c.args.page.now m n _ _
    (four-added c.args.page.now c.put_bit.new.page c.put_picture.new.page c.put_element_found.new.page m _ _ _ _ c.put_bit.ensures
    c.put_picture.ensures c.put_element_found.ensures c.bool_field.ensures)
    (subst (λ r. Adds m n (remedied_fields (option_copied c.args.file) r)) (sym c.in-Some.is) c.put_reason.ensures)
