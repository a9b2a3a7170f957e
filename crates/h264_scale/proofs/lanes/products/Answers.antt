use Rattle.h264_scale.proofs.Vectors.{products_kept}
use Rattle.h264_scale.proofs.lanes.products.Goals as goal

pub returns : goal.returns
returns c m p h = rw (p, c.factors.ensures) (products_kept c.args.qp m c.requires h)
