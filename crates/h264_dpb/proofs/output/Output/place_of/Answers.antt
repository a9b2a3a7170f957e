use Rattle.h264_dpb.proofs.Finding.{lent-at, early-at, taken-at}
use Rattle.h264_dpb.proofs.output.Output.place_of.Goals as goal

pub returns-clause-frames : goal.returns-clause-frames
returns-clause-frames c = λ frames lent h. rw (c.place_at.ensures, c.entries.ensures) (lent-at frames lent _ c.args.picture h.each)

pub returns-clause-early : goal.returns-clause-early
returns-clause-early c = λ next o. rw (c.place_at.ensures, c.entries.ensures) (early-at 0 next _ c.args.picture o.rising)

pub returns-clause-taken : goal.returns-clause-taken
returns-clause-taken c = rw (c.place_at.ensures, c.entries.ensures) (taken-at _ c.args.picture)
