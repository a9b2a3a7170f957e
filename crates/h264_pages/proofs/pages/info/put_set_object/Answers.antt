use Rattle.h264_pages.proofs.Growing.{adds-both, five-added}
use Rattle.h264_pages.proofs.pages.info.put_set_object.Goals as goal

pub returns : goal.returns
returns c = adds-both c.args.page.now c.numbered.new.self c.put.new.self _ _ c.numbered.ensures
    (five-added c.numbered.new.self c.put_profile_fields.new.page c.put_side_fields.new.page c.put_buffer_fields.new.page c.put_time_fields.new.page
    c.put.new.self _ _ _ _ _ c.put_profile_fields.ensures c.put_side_fields.ensures c.put_buffer_fields.ensures c.put_time_fields.ensures c.put.ensures)
