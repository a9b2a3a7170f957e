use Rattle.std.proofs.Common.{refl}
use Rattle.h264_base.specs.Call.{OfUnit}
use Rattle.h264_lines.specs.Chosen.{pending_call}
use Rattle.h264_units.specs.UnitTypes.{type_number}
use Rattle.h264_pages.proofs.Choosing.{took-none}
use Rattle.h264_pages.proofs.Surveying.{surveyed-more}
use Rattle.h264_pages.proofs.survey.narrowed.NarrowedFrameSink.unit.Goals as goal

pub returns-clause-ok : goal.returns-clause-ok
returns-clause-ok g c =
    let call = OfUnit c.args.byte (type_number c.args.nal_unit_type) c.args.nal_ref_idc c.args.length in
    let s = c.args.self.now in
    rw (c.if-self.false, c.note_unit-2.ensures)
    (record {
      told =
          λ before h. (
            h.0,
            took-none g.S.Elements.took s.choice s.reading _ (pending_call s.pending) _ s.sink before call refl refl h.1,
            surveyed-more call c.note_unit.ensures.told before h.2,
          );
    })
