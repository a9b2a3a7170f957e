use Rattle.std.proofs.Common.{[], ap, ◌∙◌}
use Rattle.h264_lines.specs.Sent.{lent}
use Rattle.h264_lines.specs.Y4m.{TookY4m}
use Rattle.h264_report.proofs.Accounts.{of-map}
use Rattle.h264_command.proofs.Texts.{none-y4m, takes-y4m}
use Rattle.h264_command.proofs.decoding.decode_y4m.Given as given
use Rattle.h264_command.proofs.decoding.decode_y4m.Goals.{After-drop-surveyed}
use Rattle.h264_command.proofs.decoding.decode_y4m.Goals as goal

-- the new sink was told nothing
new-told : (g : given.Over) (c : After-drop-surveyed g) → TookY4m (lent g.K.Sheet.name g.K.Sheet.start g.K.Sheet.was_failed) c.new-sink.result.head
    c.new-sink.result.broke_off (lent c.new-sink.result.pen.out.ghost_name (g.W.Device.contents c.new-sink.result.pen.out.now)
    (g.W.Device.has_failed c.new-sink.result.pen.out.now)) []
new-told g c = none-y4m (c.new-sink.ensures.same_reference ∙ c.requires.name) c.new-sink.ensures.headless
    (ap g.W.Device.contents c.new-sink.ensures.unwritten ∙ c.requires.start)
    (ap g.W.Device.has_failed c.new-sink.ensures.unwritten ∙ c.requires.was_failed) c.new-sink.ensures.whole

pub returns-clause-same_reference : goal.returns-clause-same_reference
returns-clause-same_reference g c = c.into_pen.ensures.same_reference ∙ (c.judge-surveyed.ensures.some (new-told g c)).1.same_reference

pub returns-clause-text : goal.returns-clause-text
returns-clause-text g c = rw c.into_pen.ensures.kept (of-map _ _ _ (λ bytes t. takes-y4m _ _ t) (c.judge-surveyed.ensures.took (new-told g c)))

pub returns-clause-surveyed : goal.returns-clause-surveyed
returns-clause-surveyed g c = c.judge-surveyed.ensures.surveyed (new-told g c)
