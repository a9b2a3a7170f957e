use Rattle.std.proofs.Common.{refl}
use Rattle.h264_scale.proofs.Rounded.{cons_is}
use Rattle.h264_scale.proofs.Vectors.{kept}
use Rattle.h264_scale.proofs.lanes.columns.Goals as goal

pub returns : goal.returns
returns c m p h = rw p (record {
  r0 = cons_is (kept _ h.r0.a) (cons_is (kept _ h.r1.a) (cons_is (kept _ h.r2.a) (cons_is (kept _ h.r3.a) refl)));
  r1 = cons_is (kept _ h.r0.b) (cons_is (kept _ h.r1.b) (cons_is (kept _ h.r2.b) (cons_is (kept _ h.r3.b) refl)));
  r2 = cons_is (kept _ h.r0.c) (cons_is (kept _ h.r1.c) (cons_is (kept _ h.r2.c) (cons_is (kept _ h.r3.c) refl)));
  r3 = cons_is (kept _ h.r0.d) (cons_is (kept _ h.r1.d) (cons_is (kept _ h.r2.d) (cons_is (kept _ h.r3.d) refl)));
})
