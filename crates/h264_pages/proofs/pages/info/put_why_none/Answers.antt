use Rattle.std.proofs.Common.{subst, sym}
use Rattle.h264_pages.specs.Info.{why_none}
use Rattle.h264_pages.specs.Pages.{Adds}
use Rattle.h264_pages.proofs.Growing.{adds-both}
use Rattle.h264_pages.proofs.pages.info.put_why_none.Goals as goal

pub returns-in-Some : goal.returns-in-Some
returns-in-Some c = subst (λ f. Adds c.args.page.now c.put_cause_text.new.page (why_none f)) (sym c.in-Some.is)
    (adds-both c.args.page.now c.put.new.self c.put_cause_text.new.page _ _ c.put.ensures c.put_cause_text.ensures)
