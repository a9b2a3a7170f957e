use Rattle.std.proofs.Common.{length}
use Rattle.h264_marking.proofs.steady.+are_missing.Given as goal

abbrev pub decreases-are_missing : goal.decreases-are_missing
decreases-are_missing l = length l.frames.now
