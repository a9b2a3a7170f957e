use Rattle.std.proofs.Common.{◌≡◌, length, rules}
use Rattle.h264_inter.proofs.SignedLanes.{even_lane}
use Rattle.h264_inter.proofs.pairs.even_weights.Goals as goal

pub returns : goal.returns
returns c k p f =
    let long : length c.args.w ≡ 16 = search rules in
    even_lane c.args.w k long p f
