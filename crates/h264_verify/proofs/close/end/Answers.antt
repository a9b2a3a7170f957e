use Rattle.std.proofs.Common.{◌∙◌, refl}
use Rattle.h264_verify.proofs.judged.PictureEndRules.{closing-judged, closing-held, closed-slices, none-closed}
use Rattle.h264_verify.proofs.close.end.Goals as goal

pub returns-in-None-clause-ended : goal.returns-in-None-clause-ended
returns-in-None-clause-ended c = λ before k. (none-closed before c.args.slices.now c.in-None.is k)

pub returns-in-Some-clause-judged : goal.returns-in-Some-clause-judged
returns-in-Some-clause-judged c = λ before k.
    (c.mark_end.ensures.answer ∙ closing-judged c.args.slices.now c.in-Some.picture c.saturating_sub.result c.in-Some.is c.saturating_sub.ensures before k)

pub returns-in-Some-clause-ended : goal.returns-in-Some-clause-ended
returns-in-Some-clause-ended c = λ before k.
    (closed-slices before c.args.slices.now _ c.mark_end.result k
    (c.mark_end.ensures.answer ∙ closing-judged c.args.slices.now c.in-Some.picture c.saturating_sub.result c.in-Some.is c.saturating_sub.ensures before
    k) refl
    (c.mark_end.ensures.held ∙ closing-held c.args.slices.now c.in-Some.picture c.saturating_sub.result c.in-Some.is c.saturating_sub.ensures before k))
