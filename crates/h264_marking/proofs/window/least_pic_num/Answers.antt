use Rattle.h264_marking.proofs.Least.{least_pic_num-step}
use Rattle.h264_marking.proofs.window.least_pic_num.Goals as goal

pub loop-frame-preserved : goal.loop-frame-preserved
loop-frame-preserved c = least_pic_num-step c.args.current.now c.args.frames.now c.loop-frame.frame-index _ c.loop-frame.least c.pic_num.result
    c.lesser-least.result c.loop-frame-test.true c.loop-frame.invariant c.pic_num.ensures c.lesser-least.ensures
