use Rattle.std.proofs.Common.{◌≡◌, ℤ, List, ℕ, OnOk, string_bytes, subst, w32, ◌+◌, ap, arith}
use Rattle.std.proofs.lemmas.Int.{to_z-of_z}
use Rattle.h264_base.specs.Call.{OfSlice}
use Rattle.h264_lines.specs.Objects.{opening_of, slice_in}
use Rattle.h264_lines.specs.Told.{counted}
use Rattle.h264_lines.proofs.Sinks.{take-line, unsent-line, on-ok, err-map}
use Rattle.h264_lines.proofs.line_sink.LineSink.put_slice.Goals as goal

pub returns-clause-ok : goal.returns-clause-ok
returns-clause-ok g c start before h =
    let call = OfSlice c.args.byte c.args.first_mb_in_slice c.args.slice_type c.args.frame_num c.args.count in
    let text : ℤ → List ℕ = λ z. slice_in (opening_of c.args.self.now.form) c.args.byte c.args.first_mb_in_slice c.args.slice_type c.args.frame_num z in
    let same : c.put_line.new.self.frames ≡ c.args.self.now.frames + counted c.args.self.now.listing call =
    let e = c.put_line.ensures.frames in let d = c.requires.uncounted in omega (arith, e, d) in
    rw (c.put_line.ensures.form, c.put_line.ensures.listing)
    (on-ok c.put_line.result (λ b s. take-line call (c.requires.line c.args.self.now.frames) c.requires.whole same h s b) c.put_line.ensures.blamed
    (c.put_line.ensures.ok _ (subst (λ z. OnOk c.put_slice-made.result (string_bytes c.put_slice-made.new.text ≡ text z))
    (to_z-of_z w32 c.args.count c.ranges.count) c.put_slice-made.ensures)))

pub returns-clause-refused : goal.returns-clause-refused
returns-clause-refused g c start before h =
    err-map c.put_line.result (λ u. unsent-line (ap opening_of c.put_line.ensures.form) c.put_line.ensures.listing c.put_line.ensures.frames u.0
    (ap g.W.Device.has_failed u.1) (ap g.W.Device.contents u.1) h) c.put_line.ensures.unsent
