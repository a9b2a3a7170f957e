use Rattle.std.proofs.Common.{List, ℕ, [], codes, if◌then◌else◌, subst}
use Rattle.std.specs.Option.{option_copied}
use Rattle.h264_pages.specs.Pages.{Adds, text_field}
use Rattle.h264_pages.specs.Reasons.{remedy}
use Rattle.h264_pages.proofs.Growing.{adds-both, part-added}
use Rattle.h264_pages.proofs.pages.object.put_reason.Goals as goal

pub returns : goal.returns
returns c =
    let a = c.args.page.now in
    let m = c.put_input.new.page in
    let n = c.put_part.new.page in
    let words : List ℕ = remedy c.args.reason (option_copied c.args.file) in
    let named = subst (λ t. Adds a c.text_field.new.self (text_field (codes "reason") t)) c.name.ensures c.text_field.ensures in
    let remedied = part-added m n c.new-remedy.result c.put_remedy-has_remedy.new.page (text_field (codes "remedy")) words c.put_remedy-has_remedy.result
    c.new-remedy.ensures.blank c.put_remedy-has_remedy.ensures.text c.put_part.ensures.text c.put_part.ensures.whole in
    adds-both a m n _ _ (adds-both a c.text_field.new.self m _ _ named c.put_input.ensures)
    (subst (λ b. Adds m n (if b then text_field (codes "remedy") words else [])) c.put_remedy-has_remedy.ensures.is_there remedied)
