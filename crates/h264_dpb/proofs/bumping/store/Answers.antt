use Rattle.std.proofs.Common.{◌-◌, subst, true, false}
use Rattle.h264_dpb.specs.declared.entry.Kind.{Kind}
use Rattle.h264_dpb.specs.Bumping.{missing_in}
use Rattle.h264_dpb.specs.Buffered.{HasRoomBy, IsShownBy, still, entry_of}
use Rattle.h264_dpb.proofs.Stored.{ready-reference, ready-missing, ready-other, short-reference, short-missing, short-other}
use Rattle.h264_dpb.proofs.bumping.store.Goals as goal

pub returns-in_ok-store_marked-in-Reference-clause-within : goal.returns-in_ok-store_marked-in-Reference-clause-within
returns-in_ok-store_marked-in-Reference-clause-within g c h =
    let few = subst (λ (k : Kind). HasRoomBy k c.args.picture.now
    (record { entries = c.args.entries.now.items; missing = c.args.missing; size = c.args.size })) c.in-Reference.is c.requires.few in
    rw c.missing_in.ensures (short-reference c.args.size (missing_in c.args.picture.now.held.now) (entry_of c.args.picture.now true)
    (still c.args.picture.now) c.args.entries.now.items _ few c.in_ok-store_marked-in-Reference.ensures.steps.0)

pub returns-in_ok-store_marked-in-Reference-clause-ready : goal.returns-in_ok-store_marked-in-Reference-clause-ready
returns-in_ok-store_marked-in-Reference-clause-ready g c =
    ready-reference (g.F.FrameStore.lent c.args.frames.now) (c.args.size - missing_in c.args.picture.now.held.now) (entry_of c.args.picture.now true)
    (still c.args.picture.now) c.args.entries.now.items _ c.requires.ready
    (subst (λ (k : Kind). IsShownBy k (g.F.FrameStore.lent c.args.frames.now) c.args.picture.now) c.in-Reference.is c.requires.own)
    c.in_ok-store_marked-in-Reference.ensures.steps.0

pub returns-in_ok-store_other-in-Other-clause-within : goal.returns-in_ok-store_other-in-Other-clause-within
returns-in_ok-store_other-in-Other-clause-within g c h =
    let t = rw c.saturating_sub.ensures at c.in_ok-store_other-in-Other.ensures in
    short-other g.S.Elements.took g.S.Elements.failures (g.F.FrameStore.lent c.args.frames.now) c.args.size c.args.missing (entry_of c.args.picture.now false)
    c.args.entries.now.items _ _ _ _ h t

pub returns-in_ok-store_other-in-Other-clause-ready : goal.returns-in_ok-store_other-in-Other-clause-ready
returns-in_ok-store_other-in-Other-clause-ready g c =
    ready-other g.S.Elements.took g.S.Elements.failures (g.F.FrameStore.lent c.args.frames.now) c.saturating_sub.result (entry_of c.args.picture.now false)
    c.args.entries.now.items _ _ _ _ c.requires.ready
    (subst (λ (k : Kind). IsShownBy k (g.F.FrameStore.lent c.args.frames.now) c.args.picture.now) c.in-Other.is c.requires.own)
    c.in_ok-store_other-in-Other.ensures

pub returns-in_ok-store_missing-in-Missing-clause-within : goal.returns-in_ok-store_missing-in-Missing-clause-within
returns-in_ok-store_missing-in-Missing-clause-within g c h =
    let few = subst (λ (k : Kind). HasRoomBy k c.args.picture.now
    (record { entries = c.args.entries.now.items; missing = c.args.missing; size = c.args.size })) c.in-Missing.is c.requires.few in
    rw c.missing_in-in-Missing.ensures (short-missing c.args.size (missing_in c.args.picture.now.held.now) (still c.args.picture.now) c.args.entries.now.items
    _ few.0 few.1 c.in_ok-store_missing-in-Missing.ensures.steps.0)

pub returns-in_ok-store_missing-in-Missing-clause-ready : goal.returns-in_ok-store_missing-in-Missing-clause-ready
returns-in_ok-store_missing-in-Missing-clause-ready g c =
    ready-missing (g.F.FrameStore.lent c.args.frames.now) (c.args.size - (missing_in c.args.picture.now.held.now - 1)) (still c.args.picture.now)
    c.args.entries.now.items _ c.requires.ready c.in_ok-store_missing-in-Missing.ensures.steps.0
