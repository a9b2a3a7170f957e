use Rattle.std.proofs.Common.{refl, slice_index, sym, ◌∙◌, ⊎_elim, inl, inr}
use Rattle.h264_deblock.specs.Line.{is_within_limits}
use Rattle.h264_deblock.specs.Rows.{line_of}
use Rattle.h264_deblock.specs.Inner.{inner_of, limits_at}
use Rattle.h264_deblock.specs.Level.{any_filter}
use Rattle.h264_deblock.proofs.Lines.{within_inner}
use Rattle.h264_deblock.proofs.OutOfLimits.{quiet_line}
use Rattle.h264_deblock.proofs.filtered.are_quiet.Goals as goal

pub returns : goal.returns
returns c = record {
  quiet = λ h n i.
      let k = limits_at c.args.k.now n in
      let same = within_inner k _ _ (c.inner.ensures n) in
      sym (quiet_line k (slice_index c.args.k.now.numbers n) (line_of c.args.r.now n) refl
      (⊎_elim (λ no. inl (sym same ∙ no)) (λ off. inr off)
      (c.asking.ensures n i (is_within_limits k (inner_of c.inner.result n)) (c.within-within.ensures n i (any_filter (slice_index c.args.k.now.numbers n)))
      (c.are_zero.ensures h n i))));
}
