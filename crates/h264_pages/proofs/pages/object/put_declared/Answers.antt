use Rattle.std.proofs.Common.{codes, subst}
use Rattle.h264_pages.specs.Pages.{Adds, text_field}
use Rattle.h264_pages.proofs.Growing.{adds-both}
use Rattle.h264_pages.proofs.pages.object.put_declared.Goals as goal

pub returns : goal.returns
returns c =
    let a = c.args.page.now in
    let named = subst (λ t. Adds a c.text_field.new.self (text_field (codes "profile") t)) c.profile.ensures c.text_field.ensures in
    let last = c.put_cabac.new.page in
    adds-both a c.text_field.new.self last _ _ named
    (adds-both c.text_field.new.self c.number_field.new.self last _ _ c.number_field.ensures
    (adds-both c.number_field.new.self c.maybe_field.new.self last _ _ c.maybe_field.ensures
    (adds-both c.maybe_field.new.self c.put_size.new.page last _ _ c.put_size.ensures c.put_cabac.ensures)))
