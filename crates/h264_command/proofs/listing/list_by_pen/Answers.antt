use Rattle.std.proofs.Common.{[], ap, ◌∙◌}
use Rattle.h264_lines.specs.Objects.{opening_of}
use Rattle.h264_lines.specs.Sent.{lent}
use Rattle.h264_lines.specs.Told.{TookLines, line_state}
use Rattle.h264_report.proofs.Accounts.{none-lines, of-map}
use Rattle.h264_command.proofs.Texts.{takes-lines}
use Rattle.h264_command.proofs.listing.list_by_pen.Given as given
use Rattle.h264_command.proofs.listing.list_by_pen.Goals.{After-drop-surveyed}
use Rattle.h264_command.proofs.listing.list_by_pen.Goals as goal

-- the new sink was told nothing
new-told : (g : given.Over) (c : After-drop-surveyed g) →
    TookLines (lent g.K.Sheet.name g.K.Sheet.start g.K.Sheet.was_failed) g.K.Sheet.opening g.K.Sheet.listing
    (line_state g.W.Device.contents g.W.Device.has_failed c.new-sink.result) []
new-told g c = none-lines (c.new-sink.ensures.same_reference ∙ c.requires.name) (ap opening_of c.new-sink.ensures.form ∙ c.requires.opening)
    (c.new-sink.ensures.listing ∙ c.listing_of-listing.ensures ∙ c.requires.listing)
    (ap g.W.Device.contents c.new-sink.ensures.unwritten ∙ c.requires.start)
    (ap g.W.Device.has_failed c.new-sink.ensures.unwritten ∙ c.requires.was_failed) c.new-sink.ensures.frames c.new-sink.ensures.whole

pub returns-clause-same_reference : goal.returns-clause-same_reference
returns-clause-same_reference g c = c.into_pen.ensures.same_reference ∙ (c.judge-surveyed.ensures.some (new-told g c)).1.same_reference

pub returns-clause-text : goal.returns-clause-text
returns-clause-text g c = rw c.into_pen.ensures.kept (of-map _ _ _ (λ bytes t. takes-lines _ _ t) (c.judge-surveyed.ensures.took (new-told g c)))

pub returns-clause-surveyed : goal.returns-clause-surveyed
returns-clause-surveyed g c = c.judge-surveyed.ensures.surveyed (new-told g c)
