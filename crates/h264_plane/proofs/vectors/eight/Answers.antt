use Rattle.std.proofs.lemmas.Simd.{get_or-chunk}
use Rattle.h264_plane.proofs.vectors.eight.Goals as goal

pub returns : goal.returns
returns c k p = get_or-chunk c.args.place 8 c.args.samples.now k 0 p
