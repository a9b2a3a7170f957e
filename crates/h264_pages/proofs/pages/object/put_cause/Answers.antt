use Rattle.std.proofs.Common.{true, codes}
use Rattle.h264_pages.specs.Pages.{text_field}
use Rattle.h264_pages.specs.Reasons.{cause_text}
use Rattle.h264_pages.proofs.Growing.{part-added}
use Rattle.h264_pages.proofs.pages.object.put_cause.Goals as goal

pub returns : goal.returns
returns c = part-added c.args.page.now c.put_part.new.page c.new-cause.result c.put_cause_text.new.page (text_field (codes "cause"))
    (cause_text c.args.reason c.args.guide.cause.now) true c.new-cause.ensures.blank c.put_cause_text.ensures c.put_part.ensures.text c.put_part.ensures.whole
