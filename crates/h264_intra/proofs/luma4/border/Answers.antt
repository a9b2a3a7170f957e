use Rattle.h264_intra.proofs.Border4.{border_is}
use Rattle.h264_intra.proofs.luma4.border.Goals as goal

pub returns : goal.returns
returns c =
    border_is c.args.n.now c.unwrap_or-l.result c.unwrap_or-a.result c.unwrap_or-r.result c.unwrap_or-corner.result
    c.unwrap_or-l.ensures c.unwrap_or-a.ensures c.unwrap_or-r.ensures c.unwrap_or-corner.ensures
