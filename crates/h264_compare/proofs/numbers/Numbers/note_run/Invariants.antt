use Rattle.std.specs.Prelude.{◌≡◌, take}
use Rattle.h264_compare.specs.Differences.{differ}
use Rattle.h264_compare.specs.Numbers.{AreNoted}
use Rattle.h264_compare.proofs.numbers.Numbers.note_run.Given as goal

abbrev pub invariant-loop-i : goal.invariant-loop-i
invariant-loop-i l = AreNoted l.frame l.byte l.fn.self l.self (take l.i l.made) (take l.i l.given) × (l.differs ≡ differ (take l.i l.made) (take l.i l.given))
