use Rattle.std.proofs.Common.{◌≡◌, ◌+◌, ◌*◌, ◌≤◌, length, arith}
use Rattle.h264_plane.specs.Samples.{at}
use Rattle.h264_inter.proofs.Blocks.{row_more, row_inside}
use Rattle.h264_inter.proofs.luma_blocks.whole_block.Goals as goal

pub loop-v-preserved : goal.loop-v-preserved
loop-v-preserved g c =
    let w = g.row.W in
    let v = c.loop-v.v in
    let out = c.loop-v.out in
    let new = c.put_whole_row.new.out in
    let fits : w * v + w ≤ length out = omega (arith, row_inside w g.row.H v c.loop-v-test.true) in
    let count : length new ≡ w = c.put_whole_row.ensures.whole in
    record {
      above = row_more w v _ out new (λ a b. at c.args.p (c.args.x + a) (c.args.y + b)) fits count
          c.put_whole_row.ensures.each
          c.loop-v.invariant.above;
    }
