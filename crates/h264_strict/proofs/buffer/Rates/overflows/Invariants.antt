use Rattle.std.proofs.Common.{◌≡◌, take, false}
use Rattle.std.specs.List.{list_any}
use Rattle.h264_strict.specs.Buffer.{overfills_before}
use Rattle.h264_strict.proofs.buffer.Rates.overflows.Given as goal

abbrev pub invariant-loop-unit : goal.invariant-loop-unit
invariant-loop-unit l = list_any (overfills_before l.self l.waiting l.arrival) (take l.unit-index l.waiting) ≡ false
