use Rattle.std.proofs.Common.{Some, None, sym, ◌∙◌, subst}
use Rattle.h264_poc.specs.Counts.{Keeps}
use Rattle.h264_poc.proofs.Kept.{answered, counted-as, kept-as}
use Rattle.h264_poc.proofs.counts.Counts.next.Goals as goal

pub returns-in-Some-clause-counts : goal.returns-in-Some-clause-counts
returns-in-Some-clause-counts c = λ pictures k.
    let inside = subst (Keeps pictures) (sym c.self.view_is) k in
    let is = counted-as pictures c.args.picture.now c.self.inside.history inside in
    answered (Some c.in-Some.step.count) _ _ (c.in-Some.ensures.count ∙ sym is)

pub returns-in-Some-clause-kept : goal.returns-in-Some-clause-kept
returns-in-Some-clause-kept c = λ pictures k.
    let inside = subst (Keeps pictures) (sym c.self.view_is) k in
    kept-as pictures c.args.picture.now c.self.inside.history c.in-Some.step.history inside c.in-Some.ensures.history

pub returns-in-None-clause-counts : goal.returns-in-None-clause-counts
returns-in-None-clause-counts c = λ pictures k.
    let inside = subst (Keeps pictures) (sym c.self.view_is) k in
    let is = counted-as pictures c.args.picture.now c.self.inside.history inside in
    answered None _ _ (c.in-None.ensures.count ∙ sym is)
