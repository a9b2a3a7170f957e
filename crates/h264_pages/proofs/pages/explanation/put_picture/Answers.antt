use Rattle.std.proofs.Common.{sym, subst}
use Rattle.h264_pages.specs.Explanations.{picture_line}
use Rattle.h264_pages.specs.Pages.{Adds}
use Rattle.h264_pages.proofs.Growing.{four-added}
use Rattle.h264_pages.proofs.pages.explanation.put_picture.Goals as goal

pub returns-in-Some : goal.returns-in-Some
returns-in-Some c =
    subst (λ p. Adds c.args.page.now c.put.new.self (picture_line p c.args.finding.now.frame_num c.args.finding.now.slice)) (sym c.in-Some.is)
    (four-added c.args.page.now c.numbered.new.self c.number_after.new.self c.number_after-in-Some.new.self c.put.new.self _ _ _ _
    c.numbered.ensures c.number_after.ensures c.number_after-in-Some.ensures c.put.ensures)
