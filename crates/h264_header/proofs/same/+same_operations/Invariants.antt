use Rattle.std.proofs.Common.{length}
use Rattle.h264_header.proofs.same.+same_operations.Given as goal

abbrev pub decreases-same_operations : goal.decreases-same_operations
decreases-same_operations l = length l.first.now
