use Rattle.std.proofs.Common.{sym, subst, List}
use Rattle.h264_dpb.specs.declared.entry.Entry.{Entry}
use Rattle.h264_dpb.specs.declared.entry.Placed.{Placed}
use Rattle.h264_dpb.specs.Buffered.{AreReady}
use Rattle.h264_dpb.proofs.Room.{ready-marked}
use Rattle.h264_dpb.proofs.bumping.store_missing.Goals as goal

pub make_room-requires-clause-ready : goal.make_room-requires-clause-ready
make_room-requires-clause-ready g c = subst (λ (l : List (Entry Placed)). AreReady (g.F.FrameStore.lent c.args.frames.now) l) (sym c.mark.ensures)
    (ready-marked (g.F.FrameStore.lent c.args.frames.now) _ c.args.entries.now.items c.requires.ready)
