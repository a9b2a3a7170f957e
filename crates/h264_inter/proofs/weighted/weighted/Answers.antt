use Rattle.std.proofs.Common.{◌∙◌}
use Rattle.h264_inter.proofs.Weighing.{weighted-of}
use Rattle.h264_inter.proofs.weighted.weighted.Goals as goal

pub returns : goal.returns
returns c =
    let m = c.product-product.ensures in
    let s = c.scaled.ensures in
    c.clipped.ensures ∙ weighted-of c.args.weight c.args.sample c.product-product.result c.scaled.result c.requires m.value m.size s.value s.size
