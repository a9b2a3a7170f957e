use Rattle.std.proofs.Common.{◌-◌, ◌<◌, ◌^◌, length}
use Rattle.h264_dpb.specs.Bumping.{placed}
use Rattle.h264_dpb.specs.Buffered.{AreReady}
use Rattle.h264_dpb.proofs.Steps.{SoFar}
use Rattle.h264_dpb.proofs.bumping.place.Given as goal

abbrev pub invariant-loop-turn : goal.invariant-loop-turn
invariant-loop-turn g l = record {
  so_far : SoFar g.S.Elements.took g.S.Elements.failures (g.F.FrameStore.lent l.frames)
      (placed (length l.fn.entries.items) l.places l.entry l.fn.entries.items) (placed (length l.fn.entries.items - l._turn) l.places l.entry l.entries.items)
      l.fn.sink l.sink;
  ready : AreReady (g.F.FrameStore.lent l.frames) l.entries.items;
  room : g.S.Elements.failures l.sink < 2 ^ 64 - 1;
}
