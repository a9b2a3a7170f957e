use Rattle.std.proofs.Common.{◌≡◌, ◌<◌, ◌≤◌, ◌-◌, ◌+◌, suc, length, arith}
use Rattle.std.proofs.lemmas.Result.{err_from_is_err_and}
use Rattle.h264_dpb.specs.Bumping.{bumped, made_room}
use Rattle.h264_dpb.proofs.Steps.{so-far-next, so-far-last, so-far-ends, steps-front}
use Rattle.h264_dpb.proofs.Room.{made_room-free, made_room-next, made_room-last, ready-bumped}
use Rattle.h264_dpb.proofs.bumping.make_room.Goals as goal

pub returns-then-len-places : goal.returns-then-len-places
returns-then-len-places g c =
    let free : length c.loop-turn.entries.items < c.args.places = omega arith in
    so-far-last g.S.Elements.took g.S.Elements.failures (g.F.FrameStore.lent c.args.frames.now) _ _ _ _ _ tt c.loop-turn.invariant.so_far
    (made_room-free _ _ _ free)

pub returns-in_err-bump : goal.returns-in_err-bump
returns-in_err-bump g c =
    let p = err_from_is_err_and c.from_residual.result c.from_residual.ensures.1 in
    let full : c.args.places ≤ length c.loop-turn.entries.items = omega arith in
    let next : length c.args.entries.now.items - c.loop-turn._turn ≡ suc (length c.args.entries.now.items - (c.loop-turn._turn + 1)) = omega arith in
    rw (p.1, p.2) (so-far-ends g.S.Elements.took g.S.Elements.failures (g.F.FrameStore.lent c.args.frames.now) _ _ _ _ _ _ _ c.loop-turn.invariant.so_far
    (steps-front g.S.Elements.took g.S.Elements.failures (g.F.FrameStore.lent c.args.frames.now) (bumped c.loop-turn.entries.items) _
    (made_room (length c.args.entries.now.items - (c.loop-turn._turn + 1)) c.args.places) _ _ _ _ _ (made_room-next _ _ _ _ next full)
    c.in_err-bump.ensures))

pub loop-turn-preserved : goal.loop-turn-preserved
loop-turn-preserved g c =
    let full : c.args.places ≤ length c.loop-turn.entries.items = omega arith in
    let next : length c.args.entries.now.items - c.loop-turn._turn ≡ suc (length c.args.entries.now.items - (c.loop-turn._turn + 1)) = omega arith in
    record {
      so_far = so-far-next g.S.Elements.took g.S.Elements.failures (g.F.FrameStore.lent c.args.frames.now) _ _ (bumped c.loop-turn.entries.items)
          (made_room (length c.args.entries.now.items - (c.loop-turn._turn + 1)) c.args.places) _ _ _ _ _ c.loop-turn.invariant.so_far
          (made_room-next _ _ _ _ next full) c.in_ok-bump.ensures;
      ready = ready-bumped (g.F.FrameStore.lent c.args.frames.now) c.loop-turn.entries.items _ c.loop-turn.invariant.ready c.in_ok-bump.ensures.steps.0;
      room = let k = c.in_ok-bump.ensures.steps.2 in let r = c.loop-turn.invariant.room in rw k r;
    }

pub returns : goal.returns
returns g c =
    let none : length c.args.entries.now.items - c.loop-turn._turn ≡ 0 = omega arith in
    so-far-last g.S.Elements.took g.S.Elements.failures (g.F.FrameStore.lent c.args.frames.now) _ _ _ _ _ tt c.loop-turn.invariant.so_far
    (made_room-last _ _ _ none)
