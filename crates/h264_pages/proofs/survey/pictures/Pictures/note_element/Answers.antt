use Rattle.std.proofs.Common.{rules}
use Rattle.h264_pages.specs.SurveyedPictures.{begins_picture}
use Rattle.h264_pages.proofs.survey.pictures.Pictures.note_element.Goals as goal

pub returns-in-Some-clause-stays : goal.returns-in-Some-clause-stays
unfolding begins_picture
returns-in-Some-clause-stays c = search rules
