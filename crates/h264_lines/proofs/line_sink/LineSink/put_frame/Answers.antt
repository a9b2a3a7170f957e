use Rattle.std.proofs.Common.{◌≡◌, ℕ, ℤ, List, OnOk, string_bytes, subst, w32, ◌+◌, ap, arith}
use Rattle.std.proofs.lemmas.Int.{to_z-of_z}
use Rattle.h264_dpb.specs.Shown.{frame_call, width_in, height_in}
use Rattle.h264_lines.specs.Told.{line_of, counted}
use Rattle.h264_lines.specs.Frames.{shown_bytes}
use Rattle.h264_lines.specs.Objects.{opening_of, frame_in}
use Rattle.h264_lines.proofs.Sinks.{take-line, unsent-line, on-err-all}
use Rattle.h264_lines.proofs.line_sink.LineSink.put_frame.Goals as goal

pub returns-in-Ok-clause-ok : goal.returns-in-Ok-clause-ok
returns-in-Ok-clause-ok g c start before h =
    let call = frame_call c.args.count c.args.frame.now c.args.rectangle in
    let text : ℤ → List ℕ = λ z. frame_in (opening_of c.args.self.now.form) c.args.self.now.frames z (width_in c.args.rectangle c.args.frame.now)
    (height_in c.args.rectangle c.args.frame.now) (shown_bytes c.args.frame.now c.args.rectangle) in
    let one : c.put_line.new.self.frames + 1 ≡ c.args.self.now.frames + counted c.args.self.now.listing call =
    let e = c.put_line.ensures.frames in let d = ap (λ l. counted l call) c.requires.listing in omega (arith, e, d) in
    rw (c.put_line.ensures.form, c.put_line.ensures.listing)
    (take-line call (ap (λ l. line_of (opening_of c.args.self.now.form) l c.args.self.now.frames call) c.requires.listing) c.requires.whole one h
    (c.in-Ok.ensures.ok _ (subst (λ z. OnOk c.put_frame-made.result (string_bytes c.put_frame-made.new.text ≡ text z))
    (to_z-of_z w32 c.args.count c.ranges.count) c.put_frame-made.ensures)) c.in-Ok.ensures.blamed)

pub returns-in-Err-clause-refused : goal.returns-in-Err-clause-refused
returns-in-Err-clause-refused g c start before h =
    let u = c.in-Err.ensures.unsent in
    unsent-line (ap opening_of c.put_line.ensures.form) c.put_line.ensures.listing c.put_line.ensures.frames u.0 (ap g.W.Device.has_failed u.1)
    (ap g.W.Device.contents u.1) h

pub returns-then-self-clause-refused : goal.returns-then-self-clause-refused
returns-then-self-clause-refused g c start before h = rw c.fail.ensures.others (on-err-all c.fail.result h)
