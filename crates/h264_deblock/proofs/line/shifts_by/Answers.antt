use Rattle.std.proofs.Common.{◌≡◌, ◌-◌, min, arith, refl, get_or, slice_index}
use Rattle.h264_deblock.specs.Line.{delta, step}
use Rattle.h264_deblock.specs.Inner.{inner_of}
use Rattle.h264_deblock.proofs.Signed.{shift_is}
use Rattle.h264_deblock.proofs.line.shifts_by.Goals as goal

pub returns-clause-value : goal.returns-clause-value
unfolding delta
returns-clause-value c n i =
    let r = get_or c.rise-rise.result n 0 in
    let tc = get_or c.args.tc n 0 in
    let up : slice_index c.least.result n ≡ min (r - 161) tc = omega (arith, c.least.ensures n i, c.above.ensures n i, c.all.ensures n i) in
    let down : slice_index c.least-2.result n ≡ min (161 - r) tc = omega (arith, c.least-2.ensures n i, c.above-2.ensures n i, c.all-2.ensures n i) in
    rw (up, down) (shift_is (step (inner_of c.args.r.now n)) r tc (c.requires n i)
    (c.rise-rise.ensures n i (inner_of c.args.r.now n) (record { p1 = refl; p0 = refl; q0 = refl; q1 = refl })))
