use Rattle.std.proofs.Common.{codes, subst}
use Rattle.h264_pages.specs.Pages.{Adds, text_field}
use Rattle.h264_pages.specs.Reasons.{cause_text}
use Rattle.h264_pages.proofs.Growing.{adds-both}
use Rattle.h264_pages.proofs.pages.object.put_guide.Goals as goal

pub returns : goal.returns
returns c =
    let m = c.text_field.new.self in
    let n = c.put_cause.new.page in
    adds-both c.args.page.now m n _ _ c.text_field.ensures
    (subst (λ r. Adds m n (text_field (codes "cause") (cause_text r c.args.guide.cause.now))) c.reason_in.ensures c.put_cause.ensures)
