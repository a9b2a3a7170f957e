use Rattle.std.proofs.Common.{◌≡◌, ◌<◌, ◌≤◌, ◌-◌, ◌+◌, suc, length, arith, rules, ap, sym, ◌∙◌, List, ℤ, Bool, true, false, Option}
use Rattle.std.specs.Int.{w32}
use Rattle.std.proofs.lemmas.Int.{to_z-of_z}
use mir.Val.{SFits}
use Rattle.std.proofs.lemmas.Result.{err_from_is_err_and}
use Rattle.h264_dpb.specs.declared.entry.Entry.{Entry}
use Rattle.h264_dpb.specs.declared.entry.Placed.{Placed}
use Rattle.h264_dpb.specs.Bumping.{bumped, placed, leaves, stored_other, is_below, least_count}
use Rattle.h264_dpb.proofs.Steps.{so-far-first, so-far-next, so-far-last, so-far-ends, steps-front, steps-write}
use Rattle.h264_dpb.proofs.Room.{placed-free, placed-once, placed-next, placed-last, ready-bumped}
use Rattle.h264_dpb.proofs.bumping.place.Goals as goal

below-by : (c : ℤ) (es ys : List (Entry Placed)) (b r : Bool) (o : Option ℤ) → r ≡ is_below c o → o ≡ least_count ys → ys ≡ es → r ≡ b →
    is_below c (least_count es) ≡ b
below-by c es ys b r o e f y k = ap (λ (l : List (Entry Placed)). is_below c (least_count l)) (sym y) ∙ ap (is_below c) (sym f) ∙ sym e ∙ k

pub loop-turn-init : goal.loop-turn-init
unfolding stored_other
loop-turn-init g c = record {
  so_far = so-far-first g.S.Elements.took g.S.Elements.failures (g.F.FrameStore.lent c.args.frames.now) _ _ _
      (ap (λ n. placed n c.args.places c.args.entry c.args.entries.now.items) (omega arith));
  ready = c.requires.ready;
  room = c.requires.room;
}

pub returns-then-len-places : goal.returns-then-len-places
unfolding stored_other
returns-then-len-places g c =
    let free : length c.loop-turn.entries.items < c.args.places = omega arith in
    so-far-last g.S.Elements.took g.S.Elements.failures (g.F.FrameStore.lent c.args.frames.now) _ _ _ _ _ tt c.loop-turn.invariant.so_far
    (placed-free _ _ _ _ free ∙ ap (λ (l : List (Entry Placed)). leaves l) (sym c.push.ensures.items))

pub returns-then-is_below : goal.returns-then-is_below
unfolding stored_other
returns-then-is_below g c =
    let fits : SFits w32 c.args.entry.count = search rules in
    let e = rw (to_z-of_z w32 c.args.entry.count fits) at c.is_below.ensures in
    let full : c.args.places ≤ length c.loop-turn.entries.items = omega arith in
    let some : 0 < length c.args.entries.now.items - c.loop-turn._turn = omega arith in
    let below = below-by c.args.entry.count c.loop-turn.entries.items c.as_slice.result.now true c.is_below.result c.least_count.result e
    c.least_count.ensures c.as_slice.ensures.value c.if-is_below.true in
    so-far-ends g.S.Elements.took g.S.Elements.failures (g.F.FrameStore.lent c.args.frames.now) _ _ _ _ _ _ _ c.loop-turn.invariant.so_far
    (steps-write g.S.Elements.took g.S.Elements.failures (g.F.FrameStore.lent c.args.frames.now) _ c.args.entry _ _ _ _
    (placed-once _ _ _ _ some full below) c.write.ensures)

pub returns-in_err-bump : goal.returns-in_err-bump
unfolding stored_other
returns-in_err-bump g c =
    let p = err_from_is_err_and c.from_residual.result c.from_residual.ensures.1 in
    let fits : SFits w32 c.args.entry.count = search rules in
    let e = rw (to_z-of_z w32 c.args.entry.count fits) at c.is_below.ensures in
    let full : c.args.places ≤ length c.loop-turn.entries.items = omega arith in
    let next : length c.args.entries.now.items - c.loop-turn._turn ≡ suc (length c.args.entries.now.items - (c.loop-turn._turn + 1)) = omega arith in
    let above = below-by c.args.entry.count c.loop-turn.entries.items c.as_slice.result.now false c.is_below.result c.least_count.result e
    c.least_count.ensures c.as_slice.ensures.value c.if-is_below.false in
    rw (p.1, p.2) (so-far-ends g.S.Elements.took g.S.Elements.failures (g.F.FrameStore.lent c.args.frames.now) _ _ _ _ _ _ _ c.loop-turn.invariant.so_far
    (steps-front g.S.Elements.took g.S.Elements.failures (g.F.FrameStore.lent c.args.frames.now) (bumped c.loop-turn.entries.items) _
    (placed (length c.args.entries.now.items - (c.loop-turn._turn + 1)) c.args.places c.args.entry) _ _ _ _ _ (placed-next _ _ _ _ _ next full above)
    c.in_err-bump.ensures))

pub loop-turn-preserved : goal.loop-turn-preserved
loop-turn-preserved g c =
    let fits : SFits w32 c.args.entry.count = search rules in
    let e = rw (to_z-of_z w32 c.args.entry.count fits) at c.is_below.ensures in
    let full : c.args.places ≤ length c.loop-turn.entries.items = omega arith in
    let next : length c.args.entries.now.items - c.loop-turn._turn ≡ suc (length c.args.entries.now.items - (c.loop-turn._turn + 1)) = omega arith in
    let above = below-by c.args.entry.count c.loop-turn.entries.items c.as_slice.result.now false c.is_below.result c.least_count.result e
    c.least_count.ensures c.as_slice.ensures.value c.if-is_below.false in
    record {
      so_far = so-far-next g.S.Elements.took g.S.Elements.failures (g.F.FrameStore.lent c.args.frames.now) _ _ (bumped c.loop-turn.entries.items)
          (placed (length c.args.entries.now.items - (c.loop-turn._turn + 1)) c.args.places c.args.entry) _ _ _ _ _ c.loop-turn.invariant.so_far
          (placed-next _ _ _ _ _ next full above) c.in_ok-bump.ensures;
      ready = ready-bumped (g.F.FrameStore.lent c.args.frames.now) c.loop-turn.entries.items _ c.loop-turn.invariant.ready c.in_ok-bump.ensures.steps.0;
      room = let k = c.in_ok-bump.ensures.steps.2 in let r = c.loop-turn.invariant.room in rw k r;
    }

pub returns-then-len-places-2 : goal.returns-then-len-places-2
unfolding stored_other
returns-then-len-places-2 g c =
    let free : length c.loop-turn.entries.items < c.args.places = omega arith in
    so-far-last g.S.Elements.took g.S.Elements.failures (g.F.FrameStore.lent c.args.frames.now) _ _ _ _ _ tt c.loop-turn.invariant.so_far
    (placed-free _ _ _ _ free ∙ ap (λ (l : List (Entry Placed)). leaves l) (sym c.push-then-len-places-2.ensures.items))

pub returns : goal.returns
unfolding stored_other
returns g c =
    let full : c.args.places ≤ length c.loop-turn.entries.items = omega arith in
    let none : length c.args.entries.now.items - c.loop-turn._turn ≡ 0 = omega arith in
    so-far-ends g.S.Elements.took g.S.Elements.failures (g.F.FrameStore.lent c.args.frames.now) _ _ _ _ _ _ _ c.loop-turn.invariant.so_far
    (steps-write g.S.Elements.took g.S.Elements.failures (g.F.FrameStore.lent c.args.frames.now) _ c.args.entry _ _ _ _ (placed-last _ _ _ _ none full)
    c.write-2.ensures)
