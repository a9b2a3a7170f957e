use Rattle.std.proofs.Common.{List, ℕ, [], codes, if◌then◌else◌, subst}
use Rattle.std.specs.Option.{option_copied}
use Rattle.h264_pages.specs.Explanations.{line_of}
use Rattle.h264_pages.specs.Pages.{Adds}
use Rattle.h264_pages.specs.Reasons.{remedy}
use Rattle.h264_pages.proofs.Growing.{part-added}
use Rattle.h264_pages.proofs.pages.explanation.put_remedy_line.Goals as goal

pub returns : goal.returns
returns c =
    let a = c.args.page.now in
    let n = c.put_line.new.page in
    let words : List ℕ = remedy c.args.reason (option_copied c.args.file) in
    subst (λ b. Adds a n (if b then line_of (codes "explain remedy ") words else [])) c.put_remedy-has_remedy.ensures.is_there
    (part-added a n c.new-remedy.result c.put_remedy-has_remedy.new.page (line_of (codes "explain remedy ")) words c.put_remedy-has_remedy.result
    c.new-remedy.ensures.blank
    c.put_remedy-has_remedy.ensures.text c.put_line.ensures.text c.put_line.ensures.whole)
