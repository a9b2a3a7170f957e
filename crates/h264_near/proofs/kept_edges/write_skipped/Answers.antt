use Rattle.std.proofs.Common.{◌≡◌, length, refl, arith}
use Rattle.h264_near.proofs.Edges.{four-set}
use Rattle.h264_near.proofs.kept_edges.write_skipped.Goals as goal

pub returns : goal.returns
returns c =
    let n : length c.args.edge.now.motions ≡ 4 = omega arith in
    rw (four-set c.args.edge.now.motions _ _ _ _ n) refl
