use Rattle.std.proofs.Common.{refl}
use Rattle.h264_scale.proofs.Rounded.{cons_is}
use Rattle.h264_scale.proofs.Vectors.{difference_kept}
use Rattle.h264_scale.proofs.lanes.minus.Goals as goal

pub returns : goal.returns
returns c x y p q d e h =
    rw (p, q) (cons_is (difference_kept x.a y.a d.a e.a h.a) (cons_is (difference_kept x.b y.b d.b e.b h.b) (
    cons_is (difference_kept x.c y.c d.c e.c h.c) (cons_is (difference_kept x.d y.d d.d e.d h.d) refl))))
