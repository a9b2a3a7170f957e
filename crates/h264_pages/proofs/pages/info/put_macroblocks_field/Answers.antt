use Rattle.h264_pages.proofs.Growing.{five-added}
use Rattle.h264_pages.proofs.pages.info.put_macroblocks_field.Goals as goal

pub returns : goal.returns
returns c = five-added c.args.page.now c.name.new.self c.put_intra_fields.new.page c.put_inter_fields.new.page c.number_field.new.self c.put.new.self
    _ _ _ _ _ c.name.ensures c.put_intra_fields.ensures c.put_inter_fields.ensures c.number_field.ensures c.put.ensures
