use Rattle.std.proofs.Common.{refl, sym}
use Rattle.h264_vectors.specs.Derived.{with_part}
use Rattle.h264_vectors.proofs.Parts.{filled-whole}
use Rattle.h264_vectors.proofs.derived.fill.Goals as goal

pub returns : goal.returns
unfolding with_part
returns c = rw (
  c.after_part-16.ensures,
  c.after_part-15.ensures,
  c.after_part-14.ensures,
  c.after_part-13.ensures,
  c.after_part-12.ensures,
  c.after_part-11.ensures,
  c.after_part-10.ensures,
  c.after_part-9.ensures,
  c.after_part-8.ensures,
  c.after_part-7.ensures,
  c.after_part-6.ensures,
  c.after_part-5.ensures,
  c.after_part-4.ensures,
  c.after_part-3.ensures,
  c.after_part-2.ensures,
  c.after_part.ensures,
) refl

pub returns-then-is_whole : goal.returns-then-is_whole
returns-then-is_whole c = sym (filled-whole c.args.motions.now c.args.part c.args.motion (c.is_whole.ensures c.if-is_whole.true))
