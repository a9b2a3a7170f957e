use Rattle.std.proofs.Common.{ap, sym, ◌∙◌}
use Rattle.h264_lines.specs.Objects.{opening_of}
use Rattle.h264_report.proofs.Accounts.{none-lines}
use Rattle.h264_command.proofs.reporting.judge_pictures_by_pen.Goals as goal

pub judge_page-sink-requires-clause-none : goal.judge_page-sink-requires-clause-none
judge_page-sink-requires-clause-none g c =
    none-lines (c.new-digests.ensures.same_reference ∙ c.requires.name) (ap opening_of c.new-digests.ensures.form ∙ sym c.requires.lines)
    (c.new-digests.ensures.listing ∙ sym c.requires.listing) (ap g.W.Device.contents c.new-digests.ensures.unwritten ∙ c.requires.start)
    (ap g.W.Device.has_failed c.new-digests.ensures.unwritten ∙ c.requires.was_failed) c.new-digests.ensures.frames c.new-digests.ensures.whole
