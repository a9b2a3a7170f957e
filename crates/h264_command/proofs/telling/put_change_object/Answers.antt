use Rattle.std.proofs.Common.{◌++◌, ap, ◌∙◌, codes}
use Rattle.std.proofs.lemmas.List.{append_assoc}
use Rattle.h264_pages.specs.Pages.{text_on, quoted, text_field}
use Rattle.h264_command.specs.Texts.{change_fields}
use Rattle.h264_command.proofs.Texts.{object-closed}
use Rattle.h264_command.proofs.telling.put_change_object.Goals as goal

pub returns : goal.returns
returns c whole =
    let closed = c.close_object.ensures whole in
    let sized = c.put_sizes.ensures closed.0 in
    let told = c.text_field.ensures sized.0 in
    let opened = c.open_object.ensures told.0 in
    let fields = text_field (codes "verdict") (codes "size changes") in
    let sizes = change_fields c.args.frame c.args.first c.args.other in
    let filled = sized.1 ∙ ap (λ l. l ++ sizes) told.1 ∙ append_assoc (text_on c.open_object.new.self) fields sizes in (
      opened.0,
      object-closed (text_on c.args.page.now) (codes "{\"file\":" ++ quoted c.args.job.now.file.now) (text_field (codes "kind") (codes "verdict")) fields
          sizes (codes "}\n")
          _ _ _ opened.1 filled closed.1,
    )
