use Rattle.std.proofs.Common.{length}
use Rattle.h264_marking.proofs.steady.+is_window.Given as goal

abbrev pub decreases-is_window : goal.decreases-is_window
decreases-is_window l = length l.frames.now
