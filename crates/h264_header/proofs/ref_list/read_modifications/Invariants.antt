use Rattle.std.proofs.Common.{◌+◌, ◌-◌, ◌<◌, ◌^◌, []}
use Rattle.h264_base.proofs.Steps.{Leads}
use Rattle.h264_header.specs.Listed.{listed}
use Rattle.h264_header.specs.RefList.{modification}
use Rattle.h264_header.proofs.ref_list.read_modifications.Given as goal

abbrev pub invariant-loop-turn : goal.invariant-loop-turn
invariant-loop-turn g l = record {
  rest : Leads g.S.Elements.took g.S.Elements.failures (listed (modification l.greatest l.active) (l.active + 1) [])
      (listed (modification l.greatest l.active) ((l.active + 1) - l._turn) l.commands.items) l.fn.bits l.bits l.fn.sink l.sink;
  room : g.S.Elements.failures l.sink < 2 ^ 64 - 1;
}
