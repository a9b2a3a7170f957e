use Rattle.h264_stream.proofs.Sending.{IsRead}
use Rattle.h264_stream.proofs.sent.is_unit.Given as goal

abbrev pub invariant-loop-byte : goal.invariant-loop-byte
invariant-loop-byte l = IsRead l.bytes l.zeros l.byte-index
