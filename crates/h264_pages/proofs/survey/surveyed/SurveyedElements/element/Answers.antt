use Rattle.std.proofs.Common.{rules, SFits, w64}
use Rattle.std.proofs.lemmas.Int.{to_z-of_z}
use Rattle.h264_base.specs.Call.{OfElement}
use Rattle.h264_pages.proofs.Surveying.{surveyed-tells}
use Rattle.h264_pages.proofs.survey.surveyed.SurveyedElements.element.Goals as goal

pub returns-clause-ok : goal.returns-clause-ok
returns-clause-ok g c =
    let f : SFits w64 c.args.value = search rules in
    let ok = simp to_z-of_z at c.in_ok-element.ensures.ok in
    let noted = simp to_z-of_z at c.note_element.ensures.told in
    surveyed-tells (OfElement c.args.name c.args.bit c.args.value) noted ok
