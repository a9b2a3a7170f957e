use Rattle.std.proofs.Common.{◌≡◌, ◌-◌, drop}
use Rattle.h264_stream.specs.Sent.{code_bits_before}
use Rattle.h264_stream.proofs.sent.StartCodes.sent_bit.Given as goal

abbrev pub invariant-loop-code : goal.invariant-loop-code
invariant-loop-code l = l.sent - code_bits_before (drop l.code-index l.code-items) l.bit ≡ l.bit - code_bits_before l.code-items l.bit
