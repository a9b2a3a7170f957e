use Rattle.std.proofs.Common.{rules, SFits, w32}
use Rattle.std.proofs.lemmas.Int.{to_z-of_z}
use Rattle.h264_dpb.specs.Shown.{frame_call}
use Rattle.h264_pages.proofs.Surveying.{surveyed-tells}
use Rattle.h264_pages.proofs.survey.surveyed.SurveyedFrameOut.frame.Goals as goal

pub returns-clause-ok : goal.returns-clause-ok
returns-clause-ok g c =
    let f : SFits w32 c.args.count = search rules in
    let ok = simp to_z-of_z at c.in_ok-frame.ensures.ok in
    surveyed-tells (frame_call c.args.count c.args.frame.now c.args.rectangle) c.note_frame.ensures.told ok
