use Rattle.std.proofs.lemmas.Result.{err_from_is_err_and}
use Rattle.h264_dpb.proofs.Stored.{steps-emptied, steps-unfinished, steps-dropped}
use Rattle.h264_dpb.proofs.bumping.empty.Goals as goal

pub returns-then-not-write-clause-steps : goal.returns-then-not-write-clause-steps
returns-then-not-write-clause-steps g c =
    rw c.if-not-write.true (steps-dropped g.S.Elements.took g.S.Elements.failures (g.F.FrameStore.lent c.args.frames.now) c.args.entries.now.items _ _ tt
    c.clear.ensures)

pub returns-in_err-make_room-clause-steps : goal.returns-in_err-make_room-clause-steps
returns-in_err-make_room-clause-steps g c =
    let p = err_from_is_err_and c.from_residual.result c.from_residual.ensures.1 in
    rw (p.1, p.2, c.if-not-write.false) (steps-unfinished g.S.Elements.took g.S.Elements.failures (g.F.FrameStore.lent c.args.frames.now)
    c.args.entries.now.items _ _ _ _ _ c.in_err-make_room.ensures)

pub returns-clause-steps : goal.returns-clause-steps
returns-clause-steps g c = rw c.if-not-write.false
    (steps-emptied g.S.Elements.took g.S.Elements.failures (g.F.FrameStore.lent c.args.frames.now) c.args.entries.now.items _ _ _ _ _ tt c.clear-2.ensures
    c.in_ok-make_room.ensures)
