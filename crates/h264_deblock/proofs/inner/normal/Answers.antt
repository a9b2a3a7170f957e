use Rattle.std.proofs.Common.{◌<◌, ℕ, Bool, cond, nat_lt, slice_index, get_or, refl, ap, ◌∙◌}
use Rattle.h264_deblock.specs.Line.{is_within_limits, Line}
use Rattle.h264_deblock.specs.Level.{filter_by}
use Rattle.h264_deblock.specs.Inner.{inner_of}
use Rattle.h264_deblock.specs.declared.limits.LineLimits.{LineLimits}
use Rattle.h264_deblock.proofs.ByLane.{inner_normal_lane, reach_of_chroma_fits}
use Rattle.h264_deblock.proofs.inner.normal.Goals as goal

abbrev within : LineLimits → ℕ → Line → Bool
within k n m = is_within_limits (record { alpha = k.alpha; beta = k.beta; filter = filter_by (slice_index k.numbers n) }) m

pub shifts_by-s-requires : goal.shifts_by-s-requires
shifts_by-s-requires c n i =
    let k = c.args.k.now in
    let t = slice_index k.numbers n in
    let w = within k n (inner_of c.args.r.now n) in
    let on = c.below_four-on.ensures n i w (c.within.ensures n i (filter_by t)) in
    let s = c.chosen-t.ensures n i ∙ ap (λ z. cond (nat_lt 0 (get_or c.below_four-on.result n 0)) t z) (c.all.ensures n i) in
    (reach_of_chroma_fits w t _ _ _ on s (c.plus.ensures n i)).1

pub returns : goal.returns
returns c =
    let k = c.args.k.now in
    let both = λ (n : ℕ) (i : n < 16).
    let t = slice_index k.numbers n in
    let l = inner_of c.args.r.now n in
    let w = within k n l in
    let on = c.below_four-on.ensures n i w (c.within.ensures n i (filter_by t)) in
    let s = c.chosen-t.ensures n i ∙ ap (λ z. cond (nat_lt 0 (get_or c.below_four-on.result n 0)) t z) (c.all.ensures n i) in
    inner_normal_lane k.alpha k.beta t l l _ _ _ (slice_index c.shifts_by-s.result.up n) (slice_index c.shifts_by-s.result.down n) _ _
    (record { p1 = refl; p0 = refl; q0 = refl; q1 = refl }) on s (reach_of_chroma_fits w t _ _ _ on s (c.plus.ensures n i)).0
    (record {
      value = c.shifts_by-s.ensures.value n i;
      none = c.shifts_by-s.ensures.none n i;
      p_moved = c.moved.ensures.moved n i;
      p_still = c.moved.ensures.still n i;
      q_moved = c.moved-2.ensures.moved n i;
      q_still = c.moved-2.ensures.still n i;
    }) in
    record { p0 = λ n i. (both n i).0; q0 = λ n i. (both n i).1 }
