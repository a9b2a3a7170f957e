use Rattle.std.proofs.Common.{◌<◌, None, ◌∙◌, length, arith}
use Rattle.std.proofs.lemmas.List.{length-set}
use Rattle.h264_recon.specs.Weights.{limited_at}
use Rattle.h264_recon.proofs.Tables.{table-same, grown}
use Rattle.h264_recon.proofs.Weighted.{range-grown}
use Rattle.h264_recon.proofs.weights.each_limited.Goals as goal

pub loop-k-preserved : goal.loop-k-preserved
loop-k-preserved c =
    let l = c.loop-k in
    let inside : l.k < length l.each = let s = l.invariant.size in omega arith in
    record {
      size = length-set l.each l.k c.limited_if.result ∙ l.invariant.size;
      here = grown l.each l.k c.limited_if.result None (limited_at c.args.weights.now) inside l.invariant.here c.limited_if.ensures.here;
      in_range = range-grown l.each l.k c.limited_if.result inside l.invariant.in_range c.limited_if.ensures.in_range;
    }

pub returns-clause-here : goal.returns-clause-here
returns-clause-here c = table-same c.loop-k.each 16 (limited_at c.args.weights.now) None c.loop-k.invariant.size
    (λ k i. c.loop-k.invariant.here k (omega arith))
