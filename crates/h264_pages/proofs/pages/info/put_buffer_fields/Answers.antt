use Rattle.h264_pages.proofs.Growing.{three-added}
use Rattle.h264_pages.proofs.pages.info.put_buffer_fields.Goals as goal

pub returns : goal.returns
returns c = three-added c.args.page.now c.number_field.new.self c.maybe_field.new.self c.maybe_field-2.new.self
    _ _ _ c.number_field.ensures c.maybe_field.ensures c.maybe_field-2.ensures
