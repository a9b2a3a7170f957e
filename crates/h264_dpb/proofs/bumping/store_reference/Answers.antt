use Rattle.std.proofs.Common.{length, arith, ap, sym, List, refl}
use Rattle.std.proofs.lemmas.Result.{err_from_is_err_and}
use Rattle.h264_dpb.specs.declared.entry.Entry.{Entry}
use Rattle.h264_dpb.specs.declared.entry.Placed.{Placed}
use Rattle.h264_dpb.specs.Bumping.{made_room, stored_reference, joins, leaves}
use Rattle.h264_dpb.proofs.Steps.{so-far-first, so-far-next, so-far-last, steps-front}
use Rattle.h264_dpb.proofs.Bounded.{made_room-frees}
use Rattle.h264_dpb.proofs.bumping.store_reference.Goals as goal

pub push-requires : goal.push-requires
push-requires g c =
    let f = made_room-frees c.args.places c.args.entries.now.items c.requires.used c.requires.few in
    let e = ap (λ (l : List (Entry Placed)). length l) c.in_ok-make_room.ensures.steps.0 in
    let m = c.requires.most in
    omega (arith, f, e, m)

pub returns-in_err-make_room : goal.returns-in_err-make_room
unfolding stored_reference
returns-in_err-make_room g c =
    let p = err_from_is_err_and c.from_residual.result c.from_residual.ensures.1 in
    rw (p.1, p.2) (steps-front g.S.Elements.took g.S.Elements.failures (g.F.FrameStore.lent c.args.frames.now)
    (made_room (length c.args.entries.now.items) c.args.places c.args.entries.now.items) _ (joins c.args.entry) _ _ _ _ _ refl c.in_err-make_room.ensures)

pub returns : goal.returns
unfolding stored_reference
returns g c =
    let took = g.S.Elements.took in
    let failures = g.S.Elements.failures in
    let so_far = so-far-next took failures (g.F.FrameStore.lent c.args.frames.now) _ _
    (made_room (length c.args.entries.now.items) c.args.places c.args.entries.now.items) (joins c.args.entry) _ _ _ _ tt
    (so-far-first took failures (g.F.FrameStore.lent c.args.frames.now) _ _ _ refl) refl c.in_ok-make_room.ensures in
    so-far-last took failures (g.F.FrameStore.lent c.args.frames.now) _ _ _ _ _ tt so_far
    (ap (λ (l : List (Entry Placed)). leaves l) (sym c.push.ensures.items))
