use Rattle.std.proofs.Common.{refl, ◌∙◌}
use Rattle.h264_marking.specs.Held.{marked, slid_and_joined}
use Rattle.h264_marking.proofs.Room.{unmet-answer, met-answer, joined-left, marked-kept}
use Rattle.h264_marking.proofs.held.Held.mark.Goals as goal

pub returns-in-Idr-clause-answer : goal.returns-in-Idr-clause-answer
unfolding marked
returns-in-Idr-clause-answer c = rw c.in-Idr.is refl

pub returns-in-Idr-clause-held : goal.returns-in-Idr-clause-held
unfolding marked
returns-in-Idr-clause-held c = rw (c.in-Idr.is, c.restart.ensures) refl

pub returns-then-not-slide_and_join-clause-answer : goal.returns-then-not-slide_and_join-clause-answer
unfolding marked
returns-then-not-slide_and_join-clause-answer c =
    rw c.in-SlidingWindow.is (unmet-answer _ c.args.marking.now.bit c.slide_and_join.result c.unmet.result c.slide_and_join.ensures.met
    c.if-not-slide_and_join.true c.unmet.ensures)

pub returns-then-not-slide_and_join-clause-held : goal.returns-then-not-slide_and_join-clause-held
unfolding marked
returns-then-not-slide_and_join-clause-held c =
    rw c.in-SlidingWindow.is (joined-left (slid_and_joined c.args.current.now c.args.picture c.args.self.now) c.args.marking.now.bit c.args.self.now
    c.slide_and_join.new.self c.slide_and_join.ensures.held)

pub returns-else-not-slide_and_join-clause-answer : goal.returns-else-not-slide_and_join-clause-answer
unfolding marked
returns-else-not-slide_and_join-clause-answer c =
    rw c.in-SlidingWindow.is (met-answer _ c.args.marking.now.bit c.slide_and_join.result c.slide_and_join.ensures.met c.if-not-slide_and_join.false)

pub returns-else-not-slide_and_join-clause-held : goal.returns-else-not-slide_and_join-clause-held
unfolding marked
returns-else-not-slide_and_join-clause-held c =
    rw c.in-SlidingWindow.is (joined-left (slid_and_joined c.args.current.now c.args.picture c.args.self.now) c.args.marking.now.bit c.args.self.now
    c.slide_and_join.new.self c.slide_and_join.ensures.held)

pub returns-else-not-slide_and_join-clause-bounded : goal.returns-else-not-slide_and_join-clause-bounded
returns-else-not-slide_and_join-clause-bounded c =
    marked-kept c.args.current.now c.args.picture c.args.marking.now.bit c.args.marking.now.value c.args.self.now _ _
    (returns-else-not-slide_and_join-clause-answer c) (returns-else-not-slide_and_join-clause-held c)

pub returns-in-Adaptive-clause-answer : goal.returns-in-Adaptive-clause-answer
unfolding marked
returns-in-Adaptive-clause-answer c = c.operate.ensures.answer ∙ rw (c.in-Adaptive.is, c.as_slice.ensures.value) refl

pub returns-in-Adaptive-clause-held : goal.returns-in-Adaptive-clause-held
unfolding marked
returns-in-Adaptive-clause-held c = c.operate.ensures.held ∙ rw (c.in-Adaptive.is, c.as_slice.ensures.value) refl

pub returns-in-Adaptive-clause-bounded : goal.returns-in-Adaptive-clause-bounded
returns-in-Adaptive-clause-bounded c = marked-kept c.args.current.now c.args.picture c.args.marking.now.bit c.args.marking.now.value c.args.self.now _ _
    (returns-in-Adaptive-clause-answer c) (returns-in-Adaptive-clause-held c)
