use Rattle.std.proofs.Common.{◌≡◌, ◌*◌}
use Rattle.h264_bits.specs.Peek.{peek_at}
use Rattle.h264_cabac.proofs.load.load_last.Given as goal

abbrev pub invariant-loop-j : goal.invariant-loop-j
invariant-loop-j l = l.word ≡ peek_at (8 * l.j) l.bytes (8 * l.k)
