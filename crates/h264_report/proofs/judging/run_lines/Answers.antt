use Rattle.std.proofs.Common.{ap, sym, ◌∙◌}
use Rattle.h264_lines.specs.Objects.{opening_of}
use Rattle.h264_lines.specs.Told.{lines_of}
use Rattle.h264_lines.specs.Answer.{told_of}
use Rattle.h264_verify.specs.Modes.{purpose_for}
use Rattle.h264_verify.proofs.laws.AccountTaken.{accounts}
use Rattle.h264_verify.proofs.samples.FamiliesByPurpose.{with-family}
use Rattle.h264_report.proofs.Accounts.{writes, write-failed, none-failed, read-told, still-told, of-listing, none-lines}
use Rattle.h264_report.proofs.judging.run_lines.Goals as goal

pub returns-clause-same_reference : goal.returns-clause-same_reference
returns-clause-same_reference g c =
    let none = none-lines (c.new-sink.ensures.same_reference ∙ c.requires.name) (ap opening_of c.new-sink.ensures.form ∙ sym c.requires.lines)
    (c.new-sink.ensures.listing ∙ c.requires.listing) (ap g.W.Device.contents c.new-sink.ensures.unwritten ∙ c.requires.start)
    (ap g.W.Device.has_failed c.new-sink.ensures.unwritten ∙ c.requires.was_failed) c.new-sink.ensures.frames c.new-sink.ensures.whole in
    c.into_pen.ensures.same_reference ∙ (accounts {s' = c.run-answer.new.sink} (with-family (purpose_for c.args.mode) c.run-answer.ensures.some.4)
    none).1.same_reference

pub returns-clause-lines : goal.returns-clause-lines
returns-clause-lines g c bytes h =
    let none = none-lines (c.new-sink.ensures.same_reference ∙ c.requires.name) (ap opening_of c.new-sink.ensures.form ∙ sym c.requires.lines)
    (c.new-sink.ensures.listing ∙ c.requires.listing) (ap g.W.Device.contents c.new-sink.ensures.unwritten ∙ c.requires.start)
    (ap g.W.Device.has_failed c.new-sink.ensures.unwritten ∙ c.requires.was_failed) c.new-sink.ensures.frames c.new-sink.ensures.whole in
    let is = c.told_answer.ensures ∙ ap (λ b. told_of b c.run-answer.result) c.broke_off-broke_off.ensures in
    rw c.into_pen.ensures.kept (writes {s' = c.run-answer.new.sink} (lines_of g.K.Sheet.opening g.K.Sheet.listing 0) g.K.Sheet.start _
    c.run-answer.new.sink.broke_off is (with-family (purpose_for c.args.mode) (c.run-answer.ensures.verdict bytes h)) none (λ calls t. of-listing t))

pub returns-clause-some : goal.returns-clause-some
returns-clause-some g c =
    let none = none-lines (c.new-sink.ensures.same_reference ∙ c.requires.name) (ap opening_of c.new-sink.ensures.form ∙ sym c.requires.lines)
    (c.new-sink.ensures.listing ∙ c.requires.listing) (ap g.W.Device.contents c.new-sink.ensures.unwritten ∙ c.requires.start)
    (ap g.W.Device.has_failed c.new-sink.ensures.unwritten ∙ c.requires.was_failed) c.new-sink.ensures.frames c.new-sink.ensures.whole in
    let is = c.told_answer.ensures ∙ ap (λ b. told_of b c.run-answer.result) c.broke_off-broke_off.ensures in
    let j = c.run-answer.ensures.some in
    rw c.into_pen.ensures.kept (
      j.0,
      writes {s' = c.run-answer.new.sink} (lines_of g.K.Sheet.opening g.K.Sheet.listing 0) g.K.Sheet.start _
          c.run-answer.new.sink.broke_off is (with-family (purpose_for c.args.mode) j.4) none (λ calls t. of-listing t),
    )

pub returns-clause-read : goal.returns-clause-read
returns-clause-read g c r =
    let is = c.told_answer.ensures ∙ ap (λ b. told_of b c.run-answer.result) c.broke_off-broke_off.ensures in
    c.run-answer.ensures.read (read-told c.run-answer.new.sink.broke_off c.run-answer.result is r)

pub returns-clause-read_told : goal.returns-clause-read_told
returns-clause-read_told g c =
    let is = c.told_answer.ensures ∙ ap (λ b. told_of b c.run-answer.result) c.broke_off-broke_off.ensures in
    still-told c.run-answer.new.sink.broke_off c.run-answer.result is c.run-answer.ensures.read_told

pub returns-clause-write : goal.returns-clause-write
returns-clause-write g c w =
    let none = none-lines (c.new-sink.ensures.same_reference ∙ c.requires.name) (ap opening_of c.new-sink.ensures.form ∙ sym c.requires.lines)
    (c.new-sink.ensures.listing ∙ c.requires.listing) (ap g.W.Device.contents c.new-sink.ensures.unwritten ∙ c.requires.start)
    (ap g.W.Device.has_failed c.new-sink.ensures.unwritten ∙ c.requires.was_failed) c.new-sink.ensures.frames c.new-sink.ensures.whole in
    let is = c.told_answer.ensures ∙ ap (λ b. told_of b c.run-answer.result) c.broke_off-broke_off.ensures in
    rw c.into_pen.ensures.kept (write-failed c.run-answer.new.sink.broke_off g.K.Sheet.was_failed (g.W.Device.has_failed c.run-answer.new.sink.pen.out.now)
    c.run-answer.result is (accounts {s' = c.run-answer.new.sink} (with-family (purpose_for c.args.mode) c.run-answer.ensures.some.4) none).1.lines.blamed w)

pub returns-clause-quiet : goal.returns-clause-quiet
returns-clause-quiet g c never =
    let none = none-lines (c.new-sink.ensures.same_reference ∙ c.requires.name) (ap opening_of c.new-sink.ensures.form ∙ sym c.requires.lines)
    (c.new-sink.ensures.listing ∙ c.requires.listing) (ap g.W.Device.contents c.new-sink.ensures.unwritten ∙ c.requires.start)
    (ap g.W.Device.has_failed c.new-sink.ensures.unwritten ∙ c.requires.was_failed) c.new-sink.ensures.frames c.new-sink.ensures.whole in
    let is = c.told_answer.ensures ∙ ap (λ b. told_of b c.run-answer.result) c.broke_off-broke_off.ensures in
    rw c.into_pen.ensures.kept (none-failed c.run-answer.new.sink.broke_off g.K.Sheet.was_failed (g.W.Device.has_failed c.run-answer.new.sink.pen.out.now)
    c.run-answer.result is (accounts {s' = c.run-answer.new.sink} (with-family (purpose_for c.args.mode) c.run-answer.ensures.some.4) none).1.lines.blamed
    never)
