use Rattle.std.proofs.Common.{refl, arith}
use Rattle.h264_near.specs.Intra.{predicted_mode}
use Rattle.h264_near.proofs.Places.{length-taken}
use Rattle.h264_near.proofs.near.Near.mode.Goals as goal

pub returns : goal.returns
unfolding predicted_mode
returns c width picture k = let l = length-taken c.args.modes.now c.args.b (let r = c.requires in omega arith) in
    rw (l, c.lesser_mode.ensures, c.left_mode-left.ensures width picture k, c.upper_mode-above.ensures width picture k) refl
