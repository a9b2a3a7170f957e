use Rattle.h264_pages.proofs.Growing.{four-added}
use Rattle.h264_pages.proofs.pages.info.put_sum_fields.Goals as goal

pub returns : goal.returns
returns c = four-added c.args.page.now c.put_kind_fields.new.page c.number_field.new.self c.number_field-2.new.self c.put_macroblocks_field.new.page
    _ _ _ _ c.put_kind_fields.ensures c.number_field.ensures c.number_field-2.ensures c.put_macroblocks_field.ensures
