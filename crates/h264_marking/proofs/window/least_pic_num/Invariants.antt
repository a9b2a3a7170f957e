use Rattle.std.proofs.Common.{◌≡◌, take}
use Rattle.h264_marking.specs.Window.{least_pic_num}
use Rattle.h264_marking.proofs.window.least_pic_num.Given as goal

abbrev pub invariant-loop-frame : goal.invariant-loop-frame
invariant-loop-frame l = l.least ≡ least_pic_num l.current (take l.frame-index l.frames)
