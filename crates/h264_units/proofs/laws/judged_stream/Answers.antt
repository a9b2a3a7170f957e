use Rattle.h264_units.proofs.Longest.{judged-stream}
use Rattle.h264_units.proofs.laws.judged_stream.Goals as goal

pub returns : goal.returns
returns c = judged-stream
