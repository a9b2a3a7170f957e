use Rattle.h264_marking.proofs.Turns.{map-step}
use Rattle.h264_marking.proofs.operations.give_index.Goals as goal

pub loop-frame-preserved : goal.loop-frame-preserved
loop-frame-preserved c = map-step _ c.args.frames.now c.loop-frame.frames c.loop-frame.frame-index _ c.made_long.result c.loop-frame-test.true
    c.loop-frame.auto.frames c.loop-frame.invariant c.made_long.ensures
