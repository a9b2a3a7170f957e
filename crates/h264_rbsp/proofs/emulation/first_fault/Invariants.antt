use Rattle.std.proofs.Common.{length, ◌-◌, ℕ, ◌+◌, ◌<◌, ◌≤◌}
use Rattle.h264_rbsp.specs.Emulation.{AfterZeros, IsBroken}
use Rattle.h264_rbsp.proofs.emulation.first_fault.Given as goal

abbrev pub invariant-loop-start : goal.invariant-loop-start
invariant-loop-start l = record {
  high : l.start ≤ length l.body;
  none : (third place : ℕ) → third < l.start + 2 → AfterZeros l.body third → IsBroken l.body third place → ⊥;
}

abbrev pub decreases-loop-start : goal.decreases-loop-start
decreases-loop-start l = length l.body - l.start
