use Rattle.h264_pages.proofs.Growing.{three-added}
use Rattle.h264_pages.proofs.pages.info.put_intra.Goals as goal

pub returns : goal.returns
returns c = three-added c.args.page.now c.numbered.new.self c.numbered-2.new.self c.numbered-3.new.self
    _ _ _ c.numbered.ensures c.numbered-2.ensures c.numbered-3.ensures
