use Rattle.std.proofs.Common.{ap, ◌∙◌}
use Rattle.h264_lines.specs.Told.{bytes_of}
use Rattle.h264_lines.specs.Answer.{told_of}
use Rattle.h264_base.specs.declared.mode.Mode.TheVariants as modes
use Rattle.h264_verify.specs.Modes.{purpose_for}
use Rattle.h264_verify.proofs.laws.AccountTaken.{accounts}
use Rattle.h264_verify.proofs.samples.FamiliesByPurpose.{with-family}
use Rattle.h264_report.proofs.Accounts.{writes, write-failed, none-failed, read-told, still-told, none-frames}
use Rattle.h264_report.proofs.judging.run_frames.Goals as goal

pub returns-clause-same_reference : goal.returns-clause-same_reference
returns-clause-same_reference g c =
    let none = none-frames (c.new-sink.ensures.same_reference ∙ c.requires.name) (ap g.W.Device.contents c.new-sink.ensures.unwritten ∙ c.requires.start)
    (ap g.W.Device.has_failed c.new-sink.ensures.unwritten ∙ c.requires.was_failed) c.new-sink.ensures.whole in
    c.into_pen.ensures.same_reference ∙ (accounts {s' = c.run-answer.new.sink} (with-family (purpose_for modes.Full) c.run-answer.ensures.some.4)
    none).1.same_reference

pub returns-clause-frames : goal.returns-clause-frames
returns-clause-frames g c bytes h =
    let none = none-frames (c.new-sink.ensures.same_reference ∙ c.requires.name) (ap g.W.Device.contents c.new-sink.ensures.unwritten ∙ c.requires.start)
    (ap g.W.Device.has_failed c.new-sink.ensures.unwritten ∙ c.requires.was_failed) c.new-sink.ensures.whole in
    let is = c.told_answer.ensures ∙ ap (λ b. told_of b c.run-answer.result) c.broke_off-broke_off.ensures in
    rw c.into_pen.ensures.kept (writes {s' = c.run-answer.new.sink} bytes_of g.K.Sheet.start _ c.run-answer.new.sink.broke_off is
    (with-family (purpose_for modes.Full) (c.run-answer.ensures.verdict bytes h)) none (λ calls t. t.holds))

pub returns-clause-some : goal.returns-clause-some
returns-clause-some g c =
    let none = none-frames (c.new-sink.ensures.same_reference ∙ c.requires.name) (ap g.W.Device.contents c.new-sink.ensures.unwritten ∙ c.requires.start)
    (ap g.W.Device.has_failed c.new-sink.ensures.unwritten ∙ c.requires.was_failed) c.new-sink.ensures.whole in
    let is = c.told_answer.ensures ∙ ap (λ b. told_of b c.run-answer.result) c.broke_off-broke_off.ensures in
    let j = c.run-answer.ensures.some in
    rw c.into_pen.ensures.kept (
      j.0,
      writes {s' = c.run-answer.new.sink} bytes_of g.K.Sheet.start _ c.run-answer.new.sink.broke_off is (with-family (purpose_for modes.Full) j.4)
          none (λ calls t. t.holds),
    )

pub returns-clause-read : goal.returns-clause-read
returns-clause-read g c r =
    let is = c.told_answer.ensures ∙ ap (λ b. told_of b c.run-answer.result) c.broke_off-broke_off.ensures in
    c.run-answer.ensures.read (read-told c.run-answer.new.sink.broke_off c.run-answer.result is r)

pub returns-clause-read_told : goal.returns-clause-read_told
returns-clause-read_told g c =
    let is = c.told_answer.ensures ∙ ap (λ b. told_of b c.run-answer.result) c.broke_off-broke_off.ensures in
    still-told c.run-answer.new.sink.broke_off c.run-answer.result is c.run-answer.ensures.read_told

pub returns-clause-write : goal.returns-clause-write
returns-clause-write g c w =
    let none = none-frames (c.new-sink.ensures.same_reference ∙ c.requires.name) (ap g.W.Device.contents c.new-sink.ensures.unwritten ∙ c.requires.start)
    (ap g.W.Device.has_failed c.new-sink.ensures.unwritten ∙ c.requires.was_failed) c.new-sink.ensures.whole in
    let is = c.told_answer.ensures ∙ ap (λ b. told_of b c.run-answer.result) c.broke_off-broke_off.ensures in
    rw c.into_pen.ensures.kept (write-failed c.run-answer.new.sink.broke_off g.K.Sheet.was_failed (g.W.Device.has_failed c.run-answer.new.sink.pen.out.now)
    c.run-answer.result is (accounts {s' = c.run-answer.new.sink} (with-family (purpose_for modes.Full) c.run-answer.ensures.some.4) none).1.blamed w)

pub returns-clause-quiet : goal.returns-clause-quiet
returns-clause-quiet g c never =
    let none = none-frames (c.new-sink.ensures.same_reference ∙ c.requires.name) (ap g.W.Device.contents c.new-sink.ensures.unwritten ∙ c.requires.start)
    (ap g.W.Device.has_failed c.new-sink.ensures.unwritten ∙ c.requires.was_failed) c.new-sink.ensures.whole in
    let is = c.told_answer.ensures ∙ ap (λ b. told_of b c.run-answer.result) c.broke_off-broke_off.ensures in
    rw c.into_pen.ensures.kept (none-failed c.run-answer.new.sink.broke_off g.K.Sheet.was_failed (g.W.Device.has_failed c.run-answer.new.sink.pen.out.now)
    c.run-answer.result is (accounts {s' = c.run-answer.new.sink} (with-family (purpose_for modes.Full) c.run-answer.ensures.some.4) none).1.blamed never)
