use Rattle.h264_pages.proofs.Growing.{three-added}
use Rattle.h264_pages.proofs.pages.info.put_no_pictures.Goals as goal

pub returns : goal.returns
returns c = three-added c.args.page.now c.put.new.self c.put_why_none.new.page c.put-2.new.self
    _ _ _ c.put.ensures c.put_why_none.ensures c.put-2.ensures
