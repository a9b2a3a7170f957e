use Rattle.h264_pages.proofs.Growing.{three-added}
use Rattle.h264_pages.proofs.pages.info.put_side_fields.Goals as goal

pub returns : goal.returns
returns c = three-added c.args.page.now c.put_shown_fields.new.page c.number_field.new.self c.number_field-2.new.self
    _ _ _ c.put_shown_fields.ensures c.number_field.ensures c.number_field-2.ensures
