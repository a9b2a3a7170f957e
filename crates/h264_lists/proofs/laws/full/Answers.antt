use Rattle.h264_lists.proofs.Sorted.{built-full}
use Rattle.h264_lists.proofs.laws.full.Goals as goal

pub returns : goal.returns
returns c = built-full
