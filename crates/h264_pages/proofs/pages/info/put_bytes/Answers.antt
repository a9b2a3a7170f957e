use Rattle.h264_pages.proofs.Growing.{four-added}
use Rattle.h264_pages.proofs.pages.info.put_bytes.Goals as goal

pub returns : goal.returns
returns c = four-added c.args.page.now c.numbered.new.self c.put_mean.new.page c.numbered-2.new.self c.put.new.self
    _ _ _ _ c.numbered.ensures c.put_mean.ensures c.numbered-2.ensures c.put.ensures
