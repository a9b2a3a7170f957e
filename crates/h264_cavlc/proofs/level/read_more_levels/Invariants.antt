use Rattle.std.proofs.Common.{◌≡◌, ◌-◌, ◌<◌, ◌≤◌, ◌^◌, take, length}
use Rattle.h264_base.proofs.Steps.{Leads}
use Rattle.h264_cavlc.specs.Level.{first_suffix_length, more_levels}
use Rattle.h264_cavlc.proofs.level.read_more_levels.Given as goal

abbrev pub invariant-loop-k : goal.invariant-loop-k
invariant-loop-k g l = record {
  rest : Leads g.S.Elements.took g.S.Elements.failures
      (more_levels l.fn.token.ones (take l.fn.token.ones l.fn.levels) (first_suffix_length l.fn.token) (l.fn.token.total - l.fn.token.ones))
      (more_levels l.fn.token.ones (take l.k l.levels) l.suffix_length (l.fn.token.total - l.k)) l.fn.bits l.bits l.fn.sink l.sink;
  sized : length l.levels ≡ 16;
  some : 0 < l.suffix_length;
  short : l.suffix_length ≤ 6;
  room : g.S.Elements.failures l.sink < 2 ^ 64 - 1;
}
