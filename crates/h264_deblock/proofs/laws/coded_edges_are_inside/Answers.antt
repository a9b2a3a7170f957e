use Rattle.h264_deblock.proofs.Within.{edges-inside}
use Rattle.h264_deblock.proofs.laws.coded_edges_are_inside.Goals as goal

pub returns : goal.returns
returns c = edges-inside
