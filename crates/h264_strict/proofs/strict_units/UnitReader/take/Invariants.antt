use Rattle.std.proofs.Common.{◌≡◌, ℕ, List, ◌++◌, length}
use Rattle.h264_strict.specs.StrictUnits.{TookBytes}
use Rattle.h264_strict.proofs.strict_units.UnitReader.take.Given as goal

abbrev pub invariant-loop-rest : goal.invariant-loop-rest
invariant-loop-rest l = (done : List ℕ) × (l.piece ≡ done ++ l.rest) ×
    ((before : List ℕ) → TookBytes l.fn.self.splitter l.fn.self.extent l.fn.self.noted before →
    TookBytes l.self.splitter l.self.extent l.self.noted (before ++ done))

abbrev pub decreases-loop-rest : goal.decreases-loop-rest
decreases-loop-rest l = length l.rest
