use Rattle.h264_base.specs.Call.{OfUnit}
use Rattle.h264_units.specs.UnitTypes.{type_number}
use Rattle.h264_pages.proofs.Surveying.{surveyed-tells}
use Rattle.h264_pages.proofs.survey.surveyed.SurveyedFrameSink.unit.Goals as goal

pub returns-clause-ok : goal.returns-clause-ok
returns-clause-ok g c =
    surveyed-tells (OfUnit c.args.byte (type_number c.args.nal_unit_type) c.args.nal_ref_idc c.args.length) c.note_unit.ensures.told c.in_ok-unit.ensures.ok
