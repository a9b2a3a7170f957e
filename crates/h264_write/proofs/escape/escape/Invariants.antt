use Rattle.std.proofs.Common.{◌≡◌, ◌≤◌, ◌++◌, ◌∷◌, drop}
use Rattle.h264_write.specs.Escaped.{escaped}
use Rattle.h264_write.proofs.escape.escape.Given as goal

abbrev pub invariant-loop-byte : goal.invariant-loop-byte
invariant-loop-byte l = record {
  whole : l.body.items ++ escaped l.zeros (drop l.byte-index l.rbsp) ≡ l.header ∷ escaped 0 l.rbsp;
  few : l.zeros ≤ 2;
}
