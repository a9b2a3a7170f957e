use Rattle.std.proofs.Common.{◌≡◌, length, refl, arith}
use Rattle.h264_near.proofs.Edges.{right-edge, four-set}
use Rattle.h264_near.proofs.kept_edges.write_right.Goals as goal

pub returns : goal.returns
returns c coded s =
    let a : length c.args.m.now.totals ≡ 16 = omega arith in
    let b : length c.args.m.now.chroma_totals ≡ 8 = omega arith in
    let n : length c.args.edge.now.motions ≡ 4 = omega arith in
    right-edge c.args.m.now coded s a b _ refl refl refl refl refl refl (four-set c.args.edge.now.motions _ _ _ _ n)
