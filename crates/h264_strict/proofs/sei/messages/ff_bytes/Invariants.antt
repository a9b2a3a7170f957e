use Rattle.std.proofs.Common.{◌≡◌, ◌+◌, drop}
use Rattle.h264_strict.specs.SeiMessages.{ff_bytes}
use Rattle.h264_strict.proofs.sei.messages.ff_bytes.Given as goal

abbrev pub invariant-loop-i : goal.invariant-loop-i
invariant-loop-i l = ff_bytes l.bytes ≡ l.i + ff_bytes (drop l.i l.bytes)
