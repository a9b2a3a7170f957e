use Rattle.std.proofs.Common.{sym, subst, List}
use Rattle.h264_dpb.specs.declared.entry.Entry.{Entry}
use Rattle.h264_dpb.specs.declared.entry.Placed.{Placed}
use Rattle.h264_dpb.specs.Buffered.{AreReady, AreUsed}
use Rattle.h264_dpb.proofs.Room.{ready-marked}
use Rattle.h264_dpb.proofs.Bounded.{used-marked}
use Rattle.h264_dpb.proofs.bumping.store_marked.Goals as goal

pub store_reference-requires-clause-ready : goal.store_reference-requires-clause-ready
store_reference-requires-clause-ready g c =
    subst (λ (l : List (Entry Placed)). AreReady (g.F.FrameStore.lent c.args.frames.now) l) (sym c.mark.ensures)
    (ready-marked (g.F.FrameStore.lent c.args.frames.now) _ c.args.entries.now.items c.requires.ready)

pub store_reference-requires-clause-used : goal.store_reference-requires-clause-used
store_reference-requires-clause-used g c = subst (λ (l : List (Entry Placed)). AreUsed l) (sym c.mark.ensures) (used-marked _ c.args.entries.now.items)
