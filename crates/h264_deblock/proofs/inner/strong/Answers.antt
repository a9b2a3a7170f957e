use Rattle.h264_deblock.specs.Line.{Strong}
use Rattle.h264_deblock.specs.Inner.{inner_of}
use Rattle.h264_deblock.proofs.ByLane.{inner_strong_lane}
use Rattle.h264_deblock.proofs.inner.strong.Goals as goal

pub returns : goal.returns
returns c =
    let k = c.args.k.now in
    record {
      p0 = λ n i. (inner_strong_lane k.alpha k.beta (inner_of c.args.r.now n) _ _ _ _ _ (c.within-on.ensures n i Strong) (c.weak.ensures n i)
          (c.weak-2.ensures n i) (c.chosen.ensures n i) (c.chosen-2.ensures n i)).0;
      q0 = λ n i. (inner_strong_lane k.alpha k.beta (inner_of c.args.r.now n) _ _ _ _ _ (c.within-on.ensures n i Strong) (c.weak.ensures n i)
          (c.weak-2.ensures n i) (c.chosen.ensures n i) (c.chosen-2.ensures n i)).1;
    }
