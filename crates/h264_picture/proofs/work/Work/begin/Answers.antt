use Rattle.std.proofs.Common.{◌≡◌, ◌+◌, ◌-◌, ℕ, arith, subst, ap, ◌∙◌}
use Rattle.h264_picture.specs.Lent.{frames_in}
use Rattle.h264_picture.specs.Places.{HasBegunIn}
use Rattle.h264_picture.specs.Purposes.{makes_frames}
use Rattle.h264_picture.proofs.Canvases.{for-changed}
use Rattle.h264_picture.proofs.Turns.{lent-begun, lent-others}
use Rattle.h264_picture.proofs.work.Work.begin.Goals as goal

pub invariant_of-self-in-Some-clause-made : goal.invariant_of-self-in-Some-clause-made
invariant_of-self-in-Some-clause-made c = for-changed _ _ _ _ _ c.args.self.now.made c.in-Some.is c.begin.ensures.canvas

pub returns-in-Some-clause-holds : goal.returns-in-Some-clause-holds
returns-in-Some-clause-holds c width size h = c.begin.ensures.holds width size (rw c.in-Some.is at h)

pub returns-in-Some-clause-samples : goal.returns-in-Some-clause-samples
returns-in-Some-clause-samples c m width size making h = record {
  holds = c.begin.ensures.holds width size (rw c.in-Some.is at h);
  samples = c.begin.ensures.samples (c.args.self.now.made.now c.in-Some.sequence c.in-Some.is ∙ ap makes_frames m) making;
}

pub returns-in-Some-clause-begun : goal.returns-in-Some-clause-begun
returns-in-Some-clause-begun c =
    let base = c.args.self.now.base in
    let from = c.requires.from in
    let at : base + (c.args.place - base) ≡ c.args.place = omega arith in
    subst (λ (n : ℕ). HasBegunIn base n c.begin.new.self.canvas) at (c.begin.ensures.begun base)

pub returns-in-Some-clause-none : goal.returns-in-Some-clause-none
returns-in-Some-clause-none c =
    let base = c.args.self.now.base in
    let room = c.in-Some.sequence.room in
    let from = c.requires.from in
    let to = rw c.in-Some.is at c.requires.to in
    lent-begun base c.args.place (c.args.place - base) (frames_in c.begin.new.self.canvas) c.args.self.now.older (omega arith) (omega arith) ∙
    c.begin.ensures.none

pub returns-in-Some-clause-kept : goal.returns-in-Some-clause-kept
returns-in-Some-clause-kept c = rw c.in-Some.is
    (lent-others c.args.self.now.base (frames_in c.in-Some.sequence.canvas) (frames_in c.begin.new.self.canvas) c.args.self.now.older c.args.place
    c.requires.from c.begin.ensures.others)

pub returns-in-Some-clause-places : goal.returns-in-Some-clause-places
returns-in-Some-clause-places c = rw c.in-Some.is c.begin.ensures.places

pub returns-in-Some-clause-size : goal.returns-in-Some-clause-size
returns-in-Some-clause-size c width height h = let s = rw c.in-Some.is at h in (c.begin.ensures.size.0 ∙ s.0, c.begin.ensures.size.1 ∙ s.1)

pub returns-in-None-clause-holds : goal.returns-in-None-clause-holds
returns-in-None-clause-holds c width size h = absurd (rw c.in-None.is at h)

pub returns-in-None-clause-samples : goal.returns-in-None-clause-samples
returns-in-None-clause-samples c m width size making h = absurd (rw c.in-None.is at h)
