use Rattle.h264_header.proofs.SameMarking.{decides-marking}
use Rattle.h264_header.proofs.laws.equal_markings.Goals as goal

pub returns : goal.returns
returns c = decides-marking
