use Rattle.std.proofs.Common.{Some, None, sym, ◌∙◌}
use Rattle.h264_base.proofs.OneAnswer.{answers}
use Rattle.h264_picture.proofs.Steps.{no-memory, weaker, begins-there}
use Rattle.h264_picture.specs.Lent.{frames_in}
use Rattle.h264_picture.proofs.Canvases.{for-changed, same-some, is-begun, begun-stays}
use Rattle.h264_picture.proofs.Turns.{lent-kept}
use Rattle.h264_picture.proofs.work.Work.slice.Goals as goal

pub returns-clause-samples : goal.returns-clause-samples
returns-clause-samples g c width size making picture h n m =
    let k = rw c.in-Some.is at h in
    let same = begins-there c.args.slice.now c.in-Some.sequence.picture.next (n ∙ sym k.holds.next) in
    rw same at (c.slice.ensures.meets width size (Some making) picture k (rw same (rw c.in-Some.is at m)))

pub returns-clause-meets : goal.returns-clause-meets
returns-clause-meets g c width size picture h n =
    let k = rw c.in-Some.is at h in
    rw (begins-there c.args.slice.now c.in-Some.sequence.picture.next (n ∙ sym k.next)) at
    (weaker (λ x v k. k.holds) (c.slice.ensures.meets width size None picture (record { holds = k; samples = tt }) tt))

pub returns-clause-answers : goal.returns-clause-answers
returns-clause-answers g c width size picture h n = answers (returns-clause-meets g c width size picture h n)

pub returns-clause-no_memory : goal.returns-clause-no_memory
returns-clause-no_memory g c width size picture h =
    no-memory (c.slice.ensures.meets width size None picture (record { holds = rw c.in-Some.is at h; samples = tt }) tt)

pub returns-clause-kept : goal.returns-clause-kept
returns-clause-kept g c place b = let at = rw c.in-Some.is at b in
    rw c.in-Some.is (lent-kept c.args.self.now.base (frames_in c.in-Some.sequence.canvas) (frames_in c.slice.new.self.canvas) c.args.self.now.older
    (c.slice.ensures.frames (is-begun _ _ _ at)))

pub returns-clause-begun : goal.returns-clause-begun
returns-clause-begun g c place b = begun-stays _ _ _ _ c.slice.ensures.same.rest (rw c.in-Some.is at b)

pub invariant_of-self-clause-made : goal.invariant_of-self-clause-made
invariant_of-self-clause-made g c =
    for-changed _ _ _ _ _ c.args.self.now.made c.in-Some.is (same-some _ _ c.slice.ensures.same.rest)

pub returns-clause-places : goal.returns-clause-places
returns-clause-places g c = rw c.in-Some.is c.slice.ensures.same.places

pub returns-clause-size : goal.returns-clause-size
returns-clause-size g c width height h = let s = rw c.in-Some.is at h in (c.slice.ensures.same.across ∙ s.0, c.slice.ensures.same.down ∙ s.1)
