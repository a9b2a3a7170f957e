use Rattle.std.proofs.Common.{refl, arith}
use Rattle.h264_near.specs.Intra.{chroma_nc}
use Rattle.h264_near.proofs.Places.{length-taken}
use Rattle.h264_near.proofs.near.Near.chroma_nc.Goals as goal

pub returns : goal.returns
unfolding chroma_nc
returns c width picture k = let l = length-taken c.args.totals.now c.args.b (let r = c.requires in omega arith) in
    rw (l, c.mean.ensures, c.left_chroma-left.ensures width picture k, c.upper_chroma-above.ensures width picture k) refl
