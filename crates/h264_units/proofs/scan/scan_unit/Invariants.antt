use Rattle.std.proofs.Common.{length, ◌-◌}
use Rattle.h264_units.specs.declared.scan.Phase.TheVariants.{Inside}
use Rattle.h264_units.specs.Scanned.{Scans}
use Rattle.h264_units.proofs.scan.scan_unit.Given as goal

abbrev pub invariant-loop-i : goal.invariant-loop-i
invariant-loop-i l = Scans l.fn.held l.piece l.i (Inside l.zeros)

abbrev pub decreases-loop-i : goal.decreases-loop-i
decreases-loop-i l = length l.piece - l.i
