use Rattle.std.proofs.Common.{◌≡◌, take}
use Rattle.h264_recon.specs.Levels.{are_zero}
use Rattle.h264_recon.proofs.coefficients.are_zero.Given as goal

abbrev pub invariant-loop-level : goal.invariant-loop-level
invariant-loop-level l = l.zero ≡ are_zero (take l.level-index l.levels)
