use Rattle.h264_pages.proofs.Growing.{five-added}
use Rattle.h264_pages.proofs.pages.info.put_kinds.Goals as goal

pub returns : goal.returns
returns c = five-added c.args.page.now c.numbered.new.self c.numbered-2.new.self c.numbered-3.new.self c.numbered-4.new.self c.put.new.self
    _ _ _ _ _ c.numbered.ensures c.numbered-2.ensures c.numbered-3.ensures c.numbered-4.ensures c.put.ensures
