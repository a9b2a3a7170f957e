use Rattle.std.proofs.Common.{arith}
use Rattle.h264_plane.specs.Samples.{at}
use Rattle.h264_plane.proofs.Own.{moved}
use Rattle.h264_inter.specs.Luma.{predicted_luma}
use Rattle.h264_recon.proofs.Parts.{part_of}
use Rattle.h264_recon.proofs.inter.luma_part.Goals as goal

pub returns : goal.returns
returns g c =
    let p = c.args.plane.now in
    part_of 16 _ _ _ _ _ _ _ _ _ c.requires.inside.0 c.requires.inside.1 (c.put_rows.ensures 16 c.told-out (omega (arith, c.requires.inside.1))) c.luma.ensures
    (λ i j d e. moved (predicted_luma p.width p.height (at p) c.args.vector) _ _ _ _ (omega arith) (omega arith))
