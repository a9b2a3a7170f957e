use Rattle.std.proofs.Common.{pos, false, sym, rules, subst, IsTrue}
use Rattle.std.specs.Int.{w32}
use Rattle.std.proofs.lemmas.Int.{to_z-of_z}
use mir.Val.{SFits}
use Rattle.std.proofs.lemmas.Result.{err_from_is_err_and}
use Rattle.h264_dpb.specs.Shown.{is_shown}
use Rattle.h264_dpb.specs.declared.entry.Entry.{Entry}
use Rattle.h264_dpb.specs.declared.entry.Placed.{Placed}
use Rattle.h264_dpb.proofs.Out.{idle-by, none-by, found-by, at-by}
use Rattle.h264_dpb.proofs.Steps.{ready-at, steps-idle, steps-one, steps-failed}
use Rattle.h264_dpb.proofs.bumping.bump.Goals as goal

pub returns-in_default : goal.returns-in_default
returns-in_default g c = steps-idle g.S.Elements.took g.S.Elements.failures (g.F.FrameStore.lent c.args.frames.now) _ _ _ tt
    (idle-by c.args.entries.now.items c.as_slice.result.now c.least_count.result c.least_count.ensures c.as_slice.ensures.value c.in_default.is)

pub returns-in_default-next_out : goal.returns-in_default-next_out
returns-in_default-next_out g c =
    let fits : SFits w32 c.in-Some.least = search rules in
    let at = rw (to_z-of_z w32 c.in-Some.least fits) at c.next_out.ensures in
    steps-idle g.S.Elements.took g.S.Elements.failures (g.F.FrameStore.lent c.args.frames.now) _ _ _ tt
    (none-by c.args.entries.now.items c.as_slice.result.now c.as_slice-2.result.now c.least_count.result c.next_out.result c.in-Some.least
    (record {
      of = record { picture = 0; place = 0; rectangle = record { left = 0; right = 0; top = 0; bottom = 0 } };
      count = pos 0;
      waiting = false;
      reference = false;
    }) c.least_count.ensures c.as_slice.ensures.value c.in-Some.is at c.as_slice-2.ensures.value c.in_default-next_out.is)

pub write-requires-clause-place : goal.write-requires-clause-place
write-requires-clause-place g c =
    let fits : SFits w32 c.in-Some.least = search rules in
    let at = rw (to_z-of_z w32 c.in-Some.least fits) at c.next_out.ensures in
    let f = found-by c.args.entries.now.items c.as_slice-2.result.now c.as_slice-3.result.now c.next_out.result c.in-Some.least c.in-Some-next_out.k _ at
    c.as_slice-2.ensures.value c.in-Some-next_out.is c.as_slice-3.ensures.value in
    subst (λ (e : Entry Placed). IsTrue (is_shown (g.F.FrameStore.lent c.args.frames.now) e.of)) (sym f.2)
    (ready-at (g.F.FrameStore.lent c.args.frames.now) c.in-Some.least c.args.entries.now.items c.in-Some-next_out.k _ c.requires.ready f.0 f.1)

pub returns-in_err-write : goal.returns-in_err-write
returns-in_err-write g c =
    let fits : SFits w32 c.in-Some.least = search rules in
    let at = rw (to_z-of_z w32 c.in-Some.least fits) at c.next_out.ensures in
    let p = err_from_is_err_and c.from_residual.result c.from_residual.ensures.1 in
    let step = at-by c.args.entries.now.items c.as_slice.result.now c.as_slice-2.result.now c.as_slice-3.result.now c.least_count.result c.next_out.result
    c.in-Some.least c.in-Some-next_out.k _ c.least_count.ensures c.as_slice.ensures.value c.in-Some.is at c.as_slice-2.ensures.value c.in-Some-next_out.is
    c.as_slice-3.ensures.value in
    rw (p.1, p.2) (steps-failed g.S.Elements.took g.S.Elements.failures (g.F.FrameStore.lent c.args.frames.now) _ _ _ _ _ _ _ step c.in_err-write.ensures)

pub returns : goal.returns
returns g c =
    let fits : SFits w32 c.in-Some.least = search rules in
    let at = rw (to_z-of_z w32 c.in-Some.least fits) at c.next_out.ensures in
    let step = at-by c.args.entries.now.items c.as_slice.result.now c.as_slice-2.result.now c.as_slice-3.result.now c.least_count.result c.next_out.result
    c.in-Some.least c.in-Some-next_out.k _ c.least_count.ensures c.as_slice.ensures.value c.in-Some.is at c.as_slice-2.ensures.value c.in-Some-next_out.is
    c.as_slice-3.ensures.value in
    steps-one g.S.Elements.took g.S.Elements.failures (g.F.FrameStore.lent c.args.frames.now) _ _ _ _ _ _ _ tt step c.leave.ensures c.in_ok-write.ensures
