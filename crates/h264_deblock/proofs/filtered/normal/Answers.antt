use Rattle.std.proofs.Common.{ℕ, Bool, ◌&&◌, cond, nat_le, nat_lt, slice_index, get_or, ap, ◌∙◌}
use Rattle.std.specs.Int.{abs_diff}
use Rattle.h264_deblock.specs.Line.{is_within_limits, Line}
use Rattle.h264_deblock.specs.Rows.{line_of, sign}
use Rattle.h264_deblock.specs.Inner.{inner_of}
use Rattle.h264_deblock.specs.declared.limits.LineLimits.{LineLimits}
use Rattle.h264_deblock.specs.Level.{filter_by}
use Rattle.h264_deblock.proofs.ByLane.{normal_lane, bent_by, reach_fits}
use Rattle.h264_deblock.proofs.filtered.normal.Goals as goal

abbrev within : LineLimits → ℕ → Line → Bool
within k n m = is_within_limits (record { alpha = k.alpha; beta = k.beta; filter = filter_by (slice_index k.numbers n) }) m

pub shifts_by-s-requires : goal.shifts_by-s-requires
shifts_by-s-requires c n i =
    let k = c.args.k.now in
    let t = slice_index k.numbers n in
    let w = within k n (inner_of c.inner-inner.result n) in
    let on = c.below_four-on.ensures n i w (c.within.ensures n i (filter_by t)) in
    let s = c.chosen-t.ensures n i ∙ ap (λ z. cond (nat_lt 0 (get_or c.below_four-on.result n 0)) t z) (c.all.ensures n i) in
    (reach_fits w _ _ t _ _ _ _ _ _ on s (c.flat-p.ensures n i (w && nat_le t 25) on) (c.flat-q.ensures n i (w && nat_le t 25) on) (c.plus.ensures n i)
    (c.plus-2.ensures n i)).1

pub returns : goal.returns
returns c n i =
    let k = c.args.k.now in
    let t = slice_index k.numbers n in
    let l = line_of c.args.r.now n in
    let m = inner_of c.inner-inner.result n in
    let w = within k n m in
    let on = c.below_four-on.ensures n i w (c.within.ensures n i (filter_by t)) in
    let s = c.chosen-t.ensures n i ∙ ap (λ z. cond (nat_lt 0 (get_or c.below_four-on.result n 0)) t z) (c.all.ensures n i) in
    let p = c.flat-p.ensures n i (w && nat_le t 25) on in
    let turned_is = c.turned-turned.ensures n in
    let q = c.flat-q.ensures n i (w && nat_le t 25) on
    ∙ ap (λ (x : Line). sign ((w && nat_le t 25) && nat_lt (abs_diff x.p2 x.p0) k.beta)) turned_is in
    let fits = reach_fits w _ _ t _ _ _ _ _ _ on s p q (c.plus.ensures n i) (c.plus-2.ensures n i) in
    normal_lane k.alpha k.beta t l m _ _ _ _ _ _ _ (slice_index c.shifts_by-s.result.up n) (slice_index c.shifts_by-s.result.down n) _ _ _ _
    (c.inner-inner.ensures n) on s p q
    (c.chosen.ensures n i ∙ ap (λ z. cond (nat_lt 0 (get_or c.flat-p.result n 0)) (get_or c.chosen-t.result n 0) z) (c.all-2.ensures n i))
    (c.chosen-2.ensures n i ∙ ap (λ z. cond (nat_lt 0 (get_or c.flat-q.result n 0)) (get_or c.chosen-t.result n 0) z) (c.all-3.ensures n i))
    fits.0 (c.bent.ensures n i)
    (record {
      value = c.shifts_by-s.ensures.value n i;
      none = c.shifts_by-s.ensures.none n i;
      p_moved = c.moved.ensures.moved n i;
      p_still = c.moved.ensures.still n i;
      q_moved = c.moved-2.ensures.moved n i;
      q_still = c.moved-2.ensures.still n i;
    })
    (c.bent-2.ensures n i ∙ ap (λ (x : Line). bent_by (get_or c.chosen-2.result n 0) x) turned_is)
