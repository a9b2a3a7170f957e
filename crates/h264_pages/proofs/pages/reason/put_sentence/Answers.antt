use Rattle.std.proofs.Common.{sym, subst}
use Rattle.h264_pages.specs.Pages.{Adds}
use Rattle.h264_pages.specs.Reasons.{sentence}
use Rattle.h264_pages.proofs.Growing.{adds-both}
use Rattle.h264_pages.proofs.pages.reason.put_sentence.Goals as goal

pub returns-in-Container : goal.returns-in-Container
returns-in-Container c =
    let m = c.put.new.self in
    let n = c.put-in-Container.new.self in
    let last = c.put-in-Container-2.new.self in
    subst (λ r. Adds c.args.page.now last (sentence r)) (sym c.in-Container.is)
    (adds-both c.args.page.now m last _ _ c.put.ensures
    (adds-both m n last _ _ (subst (λ t. Adds m n t) c.title.ensures c.put-in-Container.ensures) c.put-in-Container-2.ensures))

pub returns-in-Hevc : goal.returns-in-Hevc
returns-in-Hevc c = subst (λ r. Adds c.args.page.now c.put-in-Hevc.new.self (sentence r)) (sym c.in-Hevc.is) c.put-in-Hevc.ensures

pub returns-in-Cabac : goal.returns-in-Cabac
returns-in-Cabac c = subst (λ r. Adds c.args.page.now c.put-in-Cabac.new.self (sentence r)) (sym c.in-Cabac.is) c.put-in-Cabac.ensures
