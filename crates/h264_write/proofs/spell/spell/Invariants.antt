use Rattle.std.proofs.Common.{◌≡◌, ◌-◌, ◌++◌}
use Rattle.h264_write.specs.Written.{spelled}
use Rattle.h264_write.proofs.spell.spell.Given as goal

abbrev pub invariant-loop-i : goal.invariant-loop-i
invariant-loop-i l = l.bits.items ++ spelled (l.n - l.i) l.number ≡ l.fn.bits.items ++ spelled l.n l.number
