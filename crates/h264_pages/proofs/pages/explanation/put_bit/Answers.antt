use Rattle.std.proofs.Common.{codes, subst}
use Rattle.h264_pages.specs.Pages.{Adds, numbered}
use Rattle.h264_pages.proofs.Growing.{four-added}
use Rattle.h264_pages.proofs.pages.explanation.put_bit.Goals as goal

pub returns : goal.returns
returns c = four-added c.args.page.now c.numbered.new.self c.numbered-2.new.self c.put_unit.new.page c.put.new.self _ _ _ _ c.numbered.ensures
    (subst (λ b. Adds c.numbered.new.self c.numbered-2.new.self (numbered (codes " byte ") b)) c.byte.ensures c.numbered-2.ensures)
    c.put_unit.ensures c.put.ensures
