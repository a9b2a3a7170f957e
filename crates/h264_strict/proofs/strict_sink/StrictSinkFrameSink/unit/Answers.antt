use Rattle.h264_base.specs.Call.{OfUnit}
use Rattle.h264_units.specs.UnitTypes.{type_number}
use Rattle.h264_strict.proofs.Broken.{both-more}
use Rattle.h264_strict.proofs.strict_sink.StrictSinkFrameSink.unit.Goals as goal

pub returns-clause-ok : goal.returns-clause-ok
returns-clause-ok g c =
    let old = c.args.self.now in
    let call = OfUnit c.args.byte (type_number c.args.nal_unit_type) c.args.nal_ref_idc c.args.length in
    record { told = both-more g.S.Elements.took old.sink c.unit.new.self call old.strict c.note_unit.new.self c.in_ok-unit.ensures.ok c.note_unit.ensures }
