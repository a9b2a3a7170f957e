use Rattle.std.proofs.Common.{◌∙◌, sym, ap}
use Rattle.h264_recon.specs.Given.{available, used_by}
use Rattle.h264_recon.specs.Placed.{weights_by}
use Rattle.h264_recon.specs.Predicted.{prediction_in}
use Rattle.h264_recon.proofs.Weighted.{weights-given, whole-is}
use Rattle.h264_recon.proofs.FromRead.{given-is}
use Rattle.h264_recon.proofs.input.given.Goals as goal

pub returns-clause-given : goal.returns-clause-given
returns-clause-given c w xs place m k e h is n t l a =
    let weights = weights_by c.args.references.now.weights.now in
    let motions = c.args.read.now.contexts.motions in
    given-is w xs place weights c.args.slice.now.constrained_intra c.args.slice.now.chroma_qp_index_offset m c.used.result (prediction_in c.prediction.result) _
    (c.used.ensures.here w xs m k e h is ∙ ap (λ z. used_by m.prediction (available w xs z c.args.slice.now.constrained_intra)) (sym n))
    (c.prediction.ensures.here c.args.slice.now place w xs m is t l a)
    (whole-is weights c.is_whole.result motions (c.is_whole.ensures m is) ∙ weights-given c.args.read.now.contexts m weights is.contexts)
