use Rattle.h264_header.proofs.SameMarking.{decides-operation}
use Rattle.h264_header.proofs.laws.equal_operations.Goals as goal

pub returns : goal.returns
returns c = decides-operation
