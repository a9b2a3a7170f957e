use Rattle.h264_scale.specs.Fours.{halves, half}
use Rattle.h264_scale.proofs.Vectors.{passed, short_half_four}
use Rattle.h264_scale.proofs.lanes.step.Goals as goal

pub returns : goal.returns
returns c x p d e f =
    let r0 = passed _ x.r0 p.r0 d.r0 in
    let r1 = passed _ x.r1 p.r1 d.r1 in
    let r2 = passed _ x.r2 p.r2 d.r2 in
    let r3 = passed _ x.r3 p.r3 d.r3 in
    let h1 = short_half_four x.r1 d.r1 in
    let h3 = short_half_four x.r3 d.r3 in
    let e0 = c.plus-e0.ensures x.r0 x.r2 r0 r2 d.r0 d.r2 e.r0 in
    let e1 = c.minus-e1.ensures x.r0 x.r2 r0 r2 d.r0 d.r2 e.r1 in
    let e2 = c.minus-e2.ensures (half x.r1) x.r3 (passed _ (half x.r1) (c.half.ensures x.r1 r1 d.r1) h1) r3 h1 d.r3 e.r2 in
    let e3 = c.plus-e3.ensures x.r1 (half x.r3) r1 (passed _ (half x.r3) (c.half-2.ensures x.r3 r3 d.r3) h3) d.r1 h3 e.r3 in
    let y = halves x in
    let s0 = passed _ y.r0 e0 e.r0 in
    let s1 = passed _ y.r1 e1 e.r1 in
    let s2 = passed _ y.r2 e2 e.r2 in
    let s3 = passed _ y.r3 e3 e.r3 in
    record {
      r0 = passed _ _ (c.plus.ensures y.r0 y.r3 s0 s3 e.r0 e.r3 f.r0) f.r0;
      r1 = passed _ _ (c.plus-2.ensures y.r1 y.r2 s1 s2 e.r1 e.r2 f.r1) f.r1;
      r2 = passed _ _ (c.minus.ensures y.r1 y.r2 s1 s2 e.r1 e.r2 f.r2) f.r2;
      r3 = passed _ _ (c.minus-2.ensures y.r0 y.r3 s0 s3 e.r0 e.r3 f.r3) f.r3;
    }
