use Rattle.std.proofs.Common.{◌≡◌, ◌-◌}
use Rattle.h264_strict.specs.SeiContent.{group}
use Rattle.h264_strict.specs.SeiPart.{times}
use Rattle.h264_strict.proofs.sei.content.groups.Given as goal

abbrev pub invariant-loop-n : goal.invariant-loop-n
invariant-loop-n l = record {
  rest : times l.count (group l.group) l.fn.bits.body.bytes l.fn.bits.at ≡ times (l.count - l._n) (group l.group) l.bits.body.bytes l.bits.at;
  body : l.bits.body ≡ l.fn.bits.body;
}
