use Rattle.std.proofs.Common.{length, ◌-◌, ◌≡◌, ◌≤◌, ◌++◌, drop}
use Rattle.h264_rbsp.specs.Rbsp.{rbsp_bytes, dropped_from}
use Rattle.h264_rbsp.proofs.unescape.unescaped.Given as goal

abbrev pub invariant-loop-start : goal.invariant-loop-start
invariant-loop-start l = record {
  high : l.start ≤ length l.payload;
  short : length l.bytes.items ≤ l.start;
  bytes : l.bytes.items ++ rbsp_bytes (drop l.start l.payload) ≡ rbsp_bytes l.payload;
  dropped : l.dropped.items ++ dropped_from (length l.bytes.items) (drop l.start l.payload) ≡ dropped_from 0 l.payload;
}

abbrev pub decreases-loop-start : goal.decreases-loop-start
decreases-loop-start l = length l.payload - l.start
