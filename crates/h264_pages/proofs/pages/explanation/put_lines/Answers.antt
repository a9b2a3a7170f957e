use Rattle.std.proofs.Common.{subst}
use Rattle.std.specs.Option.{option_copied}
use Rattle.h264_pages.specs.Explanations.{given_remedy_line}
use Rattle.h264_pages.specs.Pages.{Adds}
use Rattle.h264_pages.proofs.Growing.{adds-both, four-added}
use Rattle.h264_pages.proofs.pages.explanation.put_lines.Goals as goal

pub returns : goal.returns
returns c =
    let a = c.args.page.now in
    let place = c.put_place.new.page in
    let found = c.put_found.new.page in
    let allowed = c.put_allowed_line.new.page in
    let said = c.put_said.new.page in
    let reason = c.put_reason.new.page in
    let remedy = c.put_given_remedy.new.page in
    let last = c.put_end.new.page in
    let words = c.put_allowed_line.ensures in
    let remedied = subst (λ f. Adds reason remedy (given_remedy_line (option_copied f) c.args.finding.now.reason)) c.file_in.ensures
    c.put_given_remedy.ensures in (
      words.0,
      adds-both a place last _ _ c.put_place.ensures (adds-both place found last _ _ c.put_found.ensures (adds-both found allowed last _ _ words.1
          (four-added allowed said reason remedy last _ _ _ _ c.put_said.ensures c.put_reason.ensures remedied c.put_end.ensures))),
    )
