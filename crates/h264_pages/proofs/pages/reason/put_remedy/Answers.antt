use Rattle.std.proofs.Common.{sym, subst}
use Rattle.std.specs.Option.{option_copied}
use Rattle.h264_pages.specs.Pages.{Adds}
use Rattle.h264_pages.specs.Reasons.{remedy}
use Rattle.h264_pages.proofs.Growing.{adds-both}
use Rattle.h264_pages.proofs.pages.reason.put_remedy.Goals as goal

pub returns-in-Container-clause-text : goal.returns-in-Container-clause-text
returns-in-Container-clause-text c =
    let m = c.put.new.self in
    let n = c.put_file.new.page in
    let last = c.put-in-Container.new.self in
    subst (λ r. Adds c.args.page.now last (remedy r (option_copied c.args.file))) (sym c.in-Container.is)
    (adds-both c.args.page.now m last _ _ c.put.ensures (adds-both m n last _ _ c.put_file.ensures c.put-in-Container.ensures))
