use Rattle.std.proofs.Common.{◌≡◌, ◌+◌, ap, arith}
use Rattle.h264_base.specs.Call.{OfUnit}
use Rattle.h264_units.specs.UnitTypes.{type_number}
use Rattle.h264_lines.specs.Told.{counted}
use Rattle.h264_lines.specs.Objects.{opening_of}
use Rattle.h264_lines.proofs.Sinks.{take-line, unsent-line, on-ok, err-map}
use Rattle.h264_lines.proofs.line_sink.LineSink.put_unit.Goals as goal

pub returns-clause-ok : goal.returns-clause-ok
returns-clause-ok g c start before h =
    let call = OfUnit c.args.byte (type_number c.args.nal_unit_type) c.args.nal_ref_idc c.args.length in
    let same : c.put_line.new.self.frames ≡ c.args.self.now.frames + counted c.args.self.now.listing call =
    let e = c.put_line.ensures.frames in let d = c.requires.uncounted in omega (arith, e, d) in
    rw (c.put_line.ensures.form, c.put_line.ensures.listing)
    (on-ok c.put_line.result (λ b s. take-line call (c.requires.line c.args.self.now.frames) c.requires.whole same h s b) c.put_line.ensures.blamed
    (c.put_line.ensures.ok _ c.put_unit-made.ensures))

pub returns-clause-refused : goal.returns-clause-refused
returns-clause-refused g c start before h =
    err-map c.put_line.result (λ u. unsent-line (ap opening_of c.put_line.ensures.form) c.put_line.ensures.listing c.put_line.ensures.frames u.0
    (ap g.W.Device.has_failed u.1) (ap g.W.Device.contents u.1) h) c.put_line.ensures.unsent
