use Rattle.h264_pages.proofs.Growing.{five-added}
use Rattle.h264_pages.proofs.pages.info.put_offsets.Goals as goal

pub returns : goal.returns
returns c = five-added c.args.page.now c.put_cut.new.page c.put_cut-2.new.page c.put_cut-3.new.page c.put_cut-4.new.page c.put.new.self
    _ _ _ _ _ c.put_cut.ensures c.put_cut-2.ensures c.put_cut-3.ensures c.put_cut-4.ensures c.put.ensures
