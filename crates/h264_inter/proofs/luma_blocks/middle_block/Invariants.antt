use Rattle.std.proofs.Common.{◌+◌, true, false}
use Rattle.h264_plane.specs.Samples.{at}
use Rattle.h264_inter.specs.Reference.{HasBlock}
use Rattle.h264_inter.specs.Luma.{quarter}
use Rattle.h264_inter.specs.Rows.{LastFiveOfBoth, partner, rows_at}
use Rattle.h264_inter.proofs.luma_blocks.middle_block.Given as goal

abbrev pub invariant-loop-v : goal.invariant-loop-v
invariant-loop-v g l = record {
  above : HasBlock g.row.W l.v l.out (λ u v. quarter g.row.X g.row.Y (λ i j. at l.p (l.x + u + i) (l.y + v + j)));
  rows : LastFiveOfBoth true g.row.W l.p (rows_at l.x (partner g.row.X) (l.y + l.v)) l.across;
  samples : LastFiveOfBoth false g.row.W l.p (rows_at l.x (partner g.row.X) (l.y + l.v)) l.samples;
}
