use Rattle.std.proofs.Common.{◌≡◌, ℕ, ◌<◌, IsTrue, get_or, pos}
use Rattle.h264_scale.proofs.residual.are_zero.Given as goal

abbrev pub invariant-loop-level : goal.invariant-loop-level
invariant-loop-level l = IsTrue l.all → (k : ℕ) → k < l.level-index → get_or l.levels k (pos 0) ≡ pos 0
