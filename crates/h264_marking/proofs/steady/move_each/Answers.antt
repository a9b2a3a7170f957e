use Rattle.h264_marking.proofs.steady.move_each.Goals as goal
use Rattle.h264_marking.proofs.Turns.{map-step}

pub loop-frame-preserved : goal.loop-frame-preserved
loop-frame-preserved c = map-step _ c.args.frames.now c.loop-frame.frame-items c.loop-frame.frame-index _ c.moved.result c.loop-frame-test.true
    c.loop-frame.auto.frame-items c.loop-frame.invariant c.moved.ensures
