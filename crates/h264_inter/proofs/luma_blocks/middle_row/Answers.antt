use Rattle.std.proofs.Common.{◌+◌, arith, ◌∙◌}
use Rattle.h264_plane.specs.Samples.{at}
use Rattle.h264_inter.specs.Luma.{quarter}
use Rattle.h264_inter.proofs.Strips.{side_by_side}
use Rattle.h264_inter.proofs.luma_blocks.middle_row.Goals as goal

pub returns-then-this-gt8 : goal.returns-then-this-gt8
returns-then-this-gt8 g c p x d y column across samples =
    let more = c.if-this-gt8.true in
    side_by_side c.joined.result c.middle8-lo.result c.middle8.result g.row.W x (λ z. quarter g.row.X g.row.Y (λ i j. at p (z + i) (y + j)))
    c.joined.ensures.low c.joined.ensures.high (c.middle8-lo.ensures p x d y column across.left samples.left)
    (c.middle8.ensures p (x + 8) d y column (across.right more) (samples.right more)) c.requires.size

pub returns-else-this-gt8 : goal.returns-else-this-gt8
returns-else-this-gt8 g c p x d y column across samples u q =
    let few = c.if-this-gt8.false in
    c.joined-else-this-gt8.ensures.low u (omega arith) ∙ c.middle8-lo.ensures p x d y column across.left samples.left u (omega arith)
