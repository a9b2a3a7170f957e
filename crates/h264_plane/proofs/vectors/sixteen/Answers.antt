use Rattle.std.proofs.lemmas.Simd.{get_or-chunk}
use Rattle.h264_plane.proofs.vectors.sixteen.Goals as goal

pub returns : goal.returns
returns c k p = get_or-chunk c.args.place 16 c.args.samples.now k 0 p
