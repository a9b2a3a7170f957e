use Rattle.std.proofs.Common.{refl, arith, sym}
use Rattle.h264_near.specs.Intra.{block_samples}
use Rattle.h264_near.proofs.Places.{length-taken}
use Rattle.h264_near.proofs.near.Near.samples.Goals as goal

pub returns : goal.returns
unfolding block_samples
returns c width picture k = let l = length-taken c.args.modes.now c.args.b (let r = c.requires in omega arith) in
    rw (
      l,
      sym (c.left_mode-left.ensures width picture k),
      sym (c.upper_mode-above.ensures width picture k),
      sym (c.corner_mode-corner.ensures width picture k),
      c.is_some.ensures,
      c.is_some-2.ensures,
      c.is_some-3.ensures,
    ) refl
