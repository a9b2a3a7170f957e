use Rattle.std.proofs.Common.{sym, subst}
use Rattle.h264_pages.specs.Explanations.{macroblock_line}
use Rattle.h264_pages.specs.Pages.{Adds}
use Rattle.h264_pages.proofs.Growing.{four-added}
use Rattle.h264_pages.proofs.pages.explanation.put_macroblock.Goals as goal

pub returns-in-Some : goal.returns-in-Some
returns-in-Some c = subst (λ m. Adds c.args.page.now c.put.new.self (macroblock_line m)) (sym c.in-Some.is)
    (four-added c.args.page.now c.numbered.new.self c.numbered-in-Some.new.self c.numbered-in-Some-2.new.self c.put.new.self _ _ _ _
    c.numbered.ensures c.numbered-in-Some.ensures c.numbered-in-Some-2.ensures c.put.ensures)
