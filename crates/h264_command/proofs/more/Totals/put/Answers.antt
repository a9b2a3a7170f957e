use Rattle.h264_pages.proofs.Growing.{three-added, five-added}
use Rattle.h264_command.proofs.more.Totals.put.Goals as goal

pub returns : goal.returns
returns c =
    let last = c.put.new.self in
    five-added c.args.page.now c.numbered.new.self c.numbered-2.new.self c.numbered-3.new.self c.numbered-4.new.self last _ _ _ _ _ c.numbered.ensures
    c.numbered-2.ensures c.numbered-3.ensures c.numbered-4.ensures
    (three-added c.numbered-4.new.self c.numbered-5.new.self c.numbered-6.new.self last _ _ _ c.numbered-5.ensures c.numbered-6.ensures c.put.ensures)
