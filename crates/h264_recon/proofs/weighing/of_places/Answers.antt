use Rattle.std.proofs.Common.{◌<◌, get_or, None, ◌∙◌, ap, length, arith}
use Rattle.std.proofs.lemmas.List.{length-set}
use Rattle.h264_recon.specs.Placed.{weights_placed_at, placed_weights}
use Rattle.h264_recon.specs.Weights.{index_weights}
use Rattle.h264_recon.proofs.Tables.{table-same, grown}
use Rattle.h264_recon.proofs.Weighted.{range-grown}
use Rattle.h264_recon.proofs.weighing.of_places.Goals as goal

pub loop-k-preserved : goal.loop-k-preserved
loop-k-preserved c =
    let a = c.args in
    let l = c.loop-k in
    let inside : l.k < length l.each = let s = l.invariant.size in omega arith in
    record {
      size = length-set l.each l.k c.of_motion.result ∙ l.invariant.size;
      here = grown l.each l.k c.of_motion.result None (weights_placed_at a.weights.now a.motions.now) inside l.invariant.here
          (c.of_motion.ensures.here ∙ ap (λ n. index_weights a.weights.now (get_or a.motions.now n None)) c.number.ensures.here);
      in_range = range-grown l.each l.k c.of_motion.result inside l.invariant.in_range c.of_motion.ensures.in_range;
    }

pub returns-clause-here : goal.returns-clause-here
unfolding placed_weights
returns-clause-here c = table-same c.loop-k.each 16 (weights_placed_at c.args.weights.now c.args.motions.now) None c.loop-k.invariant.size
    (λ k i. c.loop-k.invariant.here k (omega arith))
