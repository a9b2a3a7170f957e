use Rattle.std.proofs.Common.{replicate, Some, None, sym, ◌∙◌}
use Rattle.std.proofs.lemmas.List.{get_or-replicate}
use Rattle.h264_recon.specs.Weights.{index_weights}
use Rattle.h264_recon.proofs.weighing.weigh_one.Goals as goal

pub returns : goal.returns
returns c =
    let all = index_weights c.args.weights.now (Some c.args.motion) in
    c.weigh_whole.ensures (replicate 16 all) (λ k h. c.of_motion.ensures.here ∙ sym (get_or-replicate 16 k all None h))
