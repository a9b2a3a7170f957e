use Rattle.std.proofs.Common.{◌+◌, arith, ◌∙◌}
use Rattle.h264_plane.specs.Samples.{at}
use Rattle.h264_inter.specs.Chroma.{weighted}
use Rattle.h264_inter.proofs.Strips.{side_by_side}
use Rattle.h264_inter.proofs.chroma_blocks.row.Goals as goal

pub returns-then-this-gt8 : goal.returns-then-this-gt8
returns-then-this-gt8 g c p x y upper lower =
    let w = c.args.w in
    let more = c.if-this-gt8.true in
    side_by_side c.joined.result c.means8-lo.result c.means8.result g.row.W x (λ z. weighted w.a w.b w.c w.d (λ i j. at p (z + i) (y + j)))
    c.joined.ensures.low c.joined.ensures.high (c.means8-lo.ensures p x y upper.left lower.left)
    (c.means8.ensures p (x + 8) y (upper.right more) (lower.right more)) c.requires.size

pub returns-else-this-gt8 : goal.returns-else-this-gt8
returns-else-this-gt8 g c p x y upper lower u q =
    c.joined-else-this-gt8.ensures.low u (omega arith) ∙ c.means8-lo.ensures p x y upper.left lower.left u (omega arith)
