use Rattle.std.proofs.Common.{get_or, min, ap, ◌∙◌}
use Rattle.h264_deblock.proofs.Masks.{fill}
use Rattle.h264_deblock.proofs.lanes.filled.Goals as goal

pub returns : goal.returns
returns c n p = fill (get_or c.args.on n 0) (get_or c.least.result n 0) _ (c.least.ensures n p ∙ ap (min (get_or c.args.on n 0)) (c.all.ensures n p))
    (c.negated.ensures n p)
