use Rattle.std.proofs.Common.{pos, negsuc}
use Rattle.h264_inter.proofs.SignedLanes.{pair_of_eight}
use Rattle.h264_inter.proofs.pairs.SixTaps.new.Goals as goal

pub returns : goal.returns
returns c = record {
  first = pair_of_eight (pos 1) (negsuc 4);
  middle = pair_of_eight (pos 20) (pos 20);
  last = pair_of_eight (negsuc 4) (pos 1);
}
