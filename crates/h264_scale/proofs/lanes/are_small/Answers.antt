use Rattle.std.proofs.Common.{rules, arith, refl, add-one, ◌≡◌, ◌+◌, ◌<◌, ◌^◌, get_or, pos, unsigned_abs, FitsSigned, w32}
use Rattle.std.proofs.lemmas.Int.{to_z-of_z}
use Rattle.std.proofs.lemmas.Bool.{le-leb, leb-true}
use Rattle.h264_scale.proofs.Vectors.{clipped_below, clipped_few, clipped_is}
use Rattle.h264_scale.proofs.lanes.are_small.Goals as goal

pub loop-x-init : goal.loop-x-init
unfolding clipped_below
loop-x-init c = refl

pub overflow_add-size : goal.overflow_add-size
overflow_add-size c =
    let few = clipped_few c.loop-x.x-index c.args.d.now in
    let i = c.loop-x.invariant in
    let m = c.min-size.ensures in
    let t = c.loop-x-test.true in
    let small : c.loop-x.size + c.min-size.result < 2 ^ 32 = omega arith in
    search rules

pub loop-x-preserved : goal.loop-x-preserved
unfolding clipped_below
loop-x-preserved c =
    let i = c.loop-x.invariant in
    let x = get_or c.args.d.now c.loop-x.x-index (pos 0) in
    let fits : FitsSigned w32 x = search rules in
    let value : c.unsigned_abs.result ≡ unsigned_abs x = rw (to_z-of_z w32 x fits) at c.unsigned_abs.ensures.value in
    let m = c.min-size.ensures in
    rw add-one (omega arith)

pub returns : goal.returns
returns c =
    let t = c.loop-x-test.false in
    let end : c.loop-x.x-index ≡ 16 = omega arith in
    let size : c.loop-x.size ≡ clipped_below 16 c.args.d.now = rw end at c.loop-x.invariant in
    let same = clipped_is 16 c.args.d.now in
    (λ e. same.0 (let b = leb-true _ _ e in omega arith), λ h. le-leb _ _ (let b = same.1 h in omega arith))
