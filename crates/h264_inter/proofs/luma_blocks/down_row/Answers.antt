use Rattle.std.proofs.Common.{◌+◌, arith, ◌∙◌, pos}
use Rattle.h264_plane.specs.Samples.{at}
use Rattle.h264_inter.specs.Luma.{half, six}
use Rattle.h264_inter.proofs.Strips.{side_by_side}
use Rattle.h264_inter.proofs.luma_blocks.down_row.Goals as goal

pub returns-then-this-gt8 : goal.returns-then-this-gt8
returns-then-this-gt8 g c p x d y all =
    let more = c.if-this-gt8.true in
    side_by_side c.beside.result c.h8-lo.result c.h8.result g.row.W x (λ z. half (six (λ i. pos (at p (z + d) (y + i)))))
    c.beside.ensures.low c.beside.ensures.high (c.h8-lo.ensures.each p x d y all.left) (c.h8.ensures.each p (x + 8) d y (all.right more)) c.requires.size

pub returns-else-this-gt8 : goal.returns-else-this-gt8
returns-else-this-gt8 g c p x d y all u q =
    let few = c.if-this-gt8.false in
    c.beside-else-this-gt8.ensures.low u (omega arith) ∙ c.h8-lo.ensures.each p x d y all.left u (omega arith)
