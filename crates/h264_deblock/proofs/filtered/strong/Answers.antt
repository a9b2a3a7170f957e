use Rattle.std.proofs.Common.{◌≡◌, ◌+◌, ◌/◌, ◌&&◌, nat_lt, refl, ap, arith, ◌∙◌}
use Rattle.std.specs.Int.{abs_diff}
use Rattle.h264_deblock.specs.Line.{Line, Limits, Strong, is_within_limits, is_flat, turned}
use Rattle.h264_deblock.specs.Rows.{line_of, sign, side_by, is_smooth}
use Rattle.h264_deblock.specs.Inner.{inner_of}
use Rattle.h264_deblock.proofs.ByLane.{strong_lane, both_lane}
use Rattle.h264_deblock.proofs.Lines.{within_inner}
use Rattle.h264_deblock.proofs.filtered.strong.Goals as goal

pub returns : goal.returns
returns c n i =
    let k : Limits = record { alpha = c.args.k.now.alpha; beta = c.args.k.now.beta; filter = Strong } in
    let l = line_of c.args.r.now n in
    let w = is_within_limits k (inner_of c.inner.result n) in
    let on = c.within-on.ensures n i Strong in
    let turned_is = c.turned-turned.ensures n in
    let p = both_lane w (is_flat k l) (nat_lt (abs_diff l.p0 l.q0) (k.alpha / 4 + 2)) _ _ _ (c.flat.ensures n i w on) (c.near-close.ensures n i)
    (c.least-smooth_p.ensures n i) in
    let other_way : abs_diff l.p0 l.q0 ≡ abs_diff l.q0 l.p0 = omega arith in
    let q = both_lane w (is_flat k (turned l)) (nat_lt (abs_diff l.q0 l.p0) (k.alpha / 4 + 2)) _ _ _
    (c.flat-2.ensures n i w on ∙ ap (λ (x : Line). sign (w && nat_lt (abs_diff x.p2 x.p0) k.beta)) turned_is)
    (c.near-close.ensures n i ∙ ap (λ z. sign (nat_lt z (k.alpha / 4 + 2))) other_way) (c.least-smooth_q.ensures n i) in
    strong_lane w (is_smooth k l) (is_smooth k (turned l)) k l _ _ (within_inner k (inner_of c.inner.result n) l (c.inner.ensures n)) refl refl refl
    (c.side_of_four.ensures n i w (w && is_smooth k l) on p)
    (c.side_of_four-2.ensures n i w (w && is_smooth k (turned l)) on q ∙ ap (λ (x : Line). side_by w (w && is_smooth k (turned l)) x) turned_is)
