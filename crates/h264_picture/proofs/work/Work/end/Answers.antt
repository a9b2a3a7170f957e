use Rattle.std.proofs.Common.{sym, subst, ap, ◌∙◌}
use Rattle.h264_picture.specs.Lent.{frames_in, written_place}
use Rattle.h264_picture.specs.Making.{IsMadeOf, setting_of}
use Rattle.h264_picture.specs.Places.{IsFrameOf}
use Rattle.h264_picture.specs.Purposes.{makes_frames}
use Rattle.h264_picture.proofs.Canvases.{for-changed, has-canvas, written-at}
use Rattle.h264_picture.proofs.Turns.{lent-begun, lent-kept}
use Rattle.h264_picture.proofs.work.Work.end.Goals as goal

pub invariant_of-self-in-Some-clause-made : goal.invariant_of-self-in-Some-clause-made
invariant_of-self-in-Some-clause-made c = for-changed _ _ _ _ _ c.args.self.now.made c.in-Some.is c.end.ensures.canvas

pub returns-in-Some-clause-holds : goal.returns-in-Some-clause-holds
returns-in-Some-clause-holds c width size picture h = c.end.ensures.holds width size picture (rw c.in-Some.is at h)

pub returns-in-Some-clause-serves : goal.returns-in-Some-clause-serves
returns-in-Some-clause-serves c width size h = c.end.ensures.serves width size (rw c.in-Some.is at h)

pub returns-in-Some-clause-decoded : goal.returns-in-Some-clause-decoded
returns-in-Some-clause-decoded c width size place making picture h n b =
    let s = c.in-Some.sequence in
    let held = rw c.in-Some.is at h in
    let at = written-at c.args.self.now.base place s.canvas (has-canvas (setting_of s) making picture s.canvas held.samples) (rw c.in-Some.is at b) in
    rw c.in-Some.is (subst (IsMadeOf (setting_of s) making picture)
    (sym (lent-begun c.args.self.now.base place (written_place s.canvas) (frames_in c.end.new.self.canvas) c.args.self.now.older at.0 at.1))
    (c.end.ensures.decoded width size making picture held n))

pub returns-in-Some-clause-kept : goal.returns-in-Some-clause-kept
returns-in-Some-clause-kept c = rw c.in-Some.is
    (lent-kept c.args.self.now.base (frames_in c.in-Some.sequence.canvas) (frames_in c.end.new.self.canvas) c.args.self.now.older c.end.ensures.frames)

pub returns-in-Some-clause-places : goal.returns-in-Some-clause-places
returns-in-Some-clause-places c = rw c.in-Some.is c.end.ensures.places

pub returns-in-Some-clause-size : goal.returns-in-Some-clause-size
returns-in-Some-clause-size c width height h = let s = rw c.in-Some.is at h in (c.end.ensures.size.0 ∙ s.0, c.end.ensures.size.1 ∙ s.1)

pub returns-in-Some-clause-ended : goal.returns-in-Some-clause-ended
returns-in-Some-clause-ended c m width height place h b =
    let s = c.in-Some.sequence in
    let some = c.args.self.now.made.now s c.in-Some.is ∙ ap makes_frames m in
    let size = rw c.in-Some.is at h in
    let at = written-at c.args.self.now.base place s.canvas some (rw c.in-Some.is at b) in
    subst (IsFrameOf width height)
    (sym (lent-begun c.args.self.now.base place (written_place s.canvas) (frames_in c.end.new.self.canvas) c.args.self.now.older at.0 at.1))
    (rw (size.0, size.1) at (c.end.ensures.ended some))

pub returns-in-None-clause-ended : goal.returns-in-None-clause-ended
returns-in-None-clause-ended c m width height place h b = absurd (rw c.in-None.is at h)
