use Rattle.h264_pages.proofs.Surveying.{surveyed-tells-none}
use Rattle.h264_pages.proofs.survey.surveyed.SurveyedFrameSink.note_places_taken.Goals as goal

pub returns-clause-same : goal.returns-clause-same
returns-clause-same g c = surveyed-tells-none c.note_places_taken.ensures.told c.note_places_taken-2.ensures.same
