use Rattle.std.proofs.Common.{sym, ◌∙◌}
use Rattle.h264_deblock.proofs.strengths.is_even.Goals as goal

pub returns : goal.returns
returns c moves t = record {
  blank = sym c.are_blank.ensures ∙ t;
  one = c.is_one_partition.ensures c.if-not-is_one_partition.false c.args.own.now.motions moves;
}
