use Rattle.std.proofs.Common.{◌≡◌, ℕ, ◌+◌, ◌-◌, ◌<◌, ◌^◌, List, [], take, length, sum_by}
use Rattle.h264_base.proofs.Steps.{Leads}
use Rattle.h264_cavlc.specs.Zeros.{runs_before}
use Rattle.h264_cavlc.proofs.Places.{PlacedTo}
use Rattle.h264_cavlc.proofs.zeros.read_places.Given as goal

abbrev pub invariant-loop-k : goal.invariant-loop-k
invariant-loop-k g l = record {
  sized : length l.by_place ≡ g.row.N;
  room : g.S.Elements.failures l.sink < 2 ^ 64 - 1;
  runs : List ℕ;
  count : length runs ≡ l.k;
  left : l.left ≡ l.zeros - sum_by (λ run. run) runs;
  last : l.last ≡ l.total - 1;
  place : l.place ≡ l.total - 1 - l.k + l.left;
  rest : Leads g.S.Elements.took g.S.Elements.failures (runs_before [] l.zeros (l.total - 1)) (runs_before runs l.left (l.total - 1 - l.k)) l.fn.bits l.bits
      l.fn.sink l.sink;
  placed : PlacedTo l.k l.total l.zeros (take l.total l.levels) runs l.by_place;
}
