use Rattle.std.proofs.Common.{sym}
use Rattle.h264_words.specs.Labels.{OfFeature, OfFurther, OfRule}
use Rattle.h264_words.proofs.labels.same_but_for_case.Goals as goal

pub returns-in-Some-clause-label : goal.returns-in-Some-clause-label
returns-in-Some-clause-label c = OfRule c.in-Some.rule (sym c.label.ensures)

pub returns-in-Some-feature_like-clause-label : goal.returns-in-Some-feature_like-clause-label
returns-in-Some-feature_like-clause-label c = OfFeature c.in-Some-feature_like.feature (sym c.text.ensures)

pub returns-in-Some-further_like-clause-label : goal.returns-in-Some-further_like-clause-label
returns-in-Some-further_like-clause-label c = OfFurther c.in-Some-further_like.rule (sym c.label-in-Some-further_like.ensures)
