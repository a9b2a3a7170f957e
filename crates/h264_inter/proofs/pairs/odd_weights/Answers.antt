use Rattle.std.proofs.Common.{◌≡◌, length, rules}
use Rattle.h264_inter.proofs.SignedLanes.{odd_lane}
use Rattle.h264_inter.proofs.pairs.odd_weights.Goals as goal

pub returns : goal.returns
returns c k p f =
    let long : length c.args.w ≡ 16 = search rules in
    odd_lane c.args.w k long p f
