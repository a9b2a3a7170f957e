use Rattle.std.proofs.Common.{◌≡◌, map, take}
use Rattle.h264_dpb.proofs.output.names.Given as goal

abbrev pub invariant-loop-frame : goal.invariant-loop-frame
invariant-loop-frame l = l.names.items ≡ map (λ f. f.picture) (take l.frame-index l.fn.frames)
