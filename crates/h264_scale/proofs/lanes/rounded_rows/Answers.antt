use Rattle.std.proofs.Common.{refl}
use Rattle.h264_scale.proofs.Rounded.{cons_is}
use Rattle.h264_scale.proofs.Vectors.{rounded_kept}
use Rattle.h264_scale.proofs.lanes.rounded_rows.Goals as goal

pub returns : goal.returns
returns c = record {
  value = λ x p h.
      let at = rounded_kept in
      rw (p.r0, p.r1, p.r2, p.r3) (
      cons_is (at x.r0.a h.r0.a) (cons_is (at x.r0.b h.r0.b) (cons_is (at x.r0.c h.r0.c) (cons_is (at x.r0.d h.r0.d) (
      cons_is (at x.r1.a h.r1.a) (cons_is (at x.r1.b h.r1.b) (cons_is (at x.r1.c h.r1.c) (cons_is (at x.r1.d h.r1.d) (
      cons_is (at x.r2.a h.r2.a) (cons_is (at x.r2.b h.r2.b) (cons_is (at x.r2.c h.r2.c) (cons_is (at x.r2.d h.r2.d) (
      cons_is (at x.r3.a h.r3.a) (cons_is (at x.r3.b h.r3.b) (cons_is (at x.r3.c h.r3.c) (cons_is (at x.r3.d h.r3.d) refl))))))))))))))));
}
