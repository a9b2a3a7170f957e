use Rattle.std.proofs.Common.{[], ap, sym, ◌∙◌}
use Rattle.h264_lines.specs.Objects.{opening_of}
use Rattle.h264_lines.specs.Sent.{lent}
use Rattle.h264_lines.specs.Told.{TookLines, line_state}
use Rattle.h264_report.proofs.Accounts.{none-lines, of-map}
use Rattle.h264_command.specs.Texts.{chooses}
use Rattle.h264_command.proofs.Texts.{takes-chosen}
use Rattle.h264_command.proofs.listing.list_chosen_by_pen.Given as given
use Rattle.h264_command.proofs.listing.list_chosen_by_pen.Goals.{After-into_pen}
use Rattle.h264_command.proofs.listing.list_chosen_by_pen.Goals as goal

-- the new sink was told nothing
new-told : (g : given.Over) (c : After-into_pen g) → TookLines (lent g.K.Sheet.name g.K.Sheet.start g.K.Sheet.was_failed) g.K.Sheet.opening g.K.Sheet.listing
    (line_state g.W.Device.contents g.W.Device.has_failed c.new-sink.result) []
new-told g c = none-lines (c.new-sink.ensures.same_reference ∙ c.requires.name) (ap opening_of c.new-sink.ensures.form ∙ c.requires.opening)
    (c.new-sink.ensures.listing ∙ c.listing_of-listing.ensures ∙ c.requires.listing)
    (ap g.W.Device.contents c.new-sink.ensures.unwritten ∙ c.requires.start)
    (ap g.W.Device.has_failed c.new-sink.ensures.unwritten ∙ c.requires.was_failed) c.new-sink.ensures.frames c.new-sink.ensures.whole

pub returns-clause-same_reference : goal.returns-clause-same_reference
returns-clause-same_reference g c = c.into_pen.ensures.same_reference ∙ (c.judge_chosen-narrowed.ensures.some (new-told g c)).1.same_reference

pub returns-clause-text : goal.returns-clause-text
returns-clause-text g c =
    let s = c.judge_chosen-narrowed.result.0.sink in
    rw c.into_pen.ensures.kept (of-map _ _ _
    (λ bytes t. takes-chosen {name = g.K.Sheet.name} {reference = s.pen.out.ghost_name} {head = g.K.Sheet.opening} {begins = opening_of s.form}
    {listing = g.K.Sheet.listing} {l = s.listing} {start = g.K.Sheet.start} {was = g.K.Sheet.was_failed} {frames = s.frames} _ _ _ _ _ s s.broke_off _
    (ap chooses (sym c.requires.choice) ∙ c.requires.chosen) t (λ calls h. h)) (c.judge_chosen-narrowed.ensures.took (new-told g c)))

pub returns-clause-surveyed : goal.returns-clause-surveyed
returns-clause-surveyed g c = c.judge_chosen-narrowed.ensures.surveyed (new-told g c)
