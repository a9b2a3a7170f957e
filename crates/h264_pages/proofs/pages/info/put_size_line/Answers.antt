use Rattle.h264_pages.proofs.Growing.{four-added}
use Rattle.h264_pages.proofs.pages.info.put_size_line.Goals as goal

pub returns : goal.returns
returns c = four-added c.args.page.now c.put_shown.new.page c.put_coded.new.page c.put_sides.new.page c.put.new.self
    _ _ _ _ c.put_shown.ensures c.put_coded.ensures c.put_sides.ensures c.put.ensures
