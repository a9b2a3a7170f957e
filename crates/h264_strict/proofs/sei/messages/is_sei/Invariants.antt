use Rattle.std.proofs.Common.{◌≡◌, ◌-◌, ◌≤◌, length}
use Rattle.h264_strict.specs.SeiMessages.{are_messages}
use Rattle.h264_strict.proofs.sei.messages.is_sei.Given as goal

abbrev pub invariant-loop-n : goal.invariant-loop-n
invariant-loop-n l = (are_messages (length l.bytes) l.bytes ≡ are_messages (length l.bytes - l._n) l.rest) × (length l.rest ≤ length l.bytes)
