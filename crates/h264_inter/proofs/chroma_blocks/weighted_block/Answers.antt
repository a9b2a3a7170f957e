use Rattle.std.proofs.Common.{◌≡◌, ◌+◌, ◌*◌, ◌≤◌, length, arith, ◌∙◌}
use Rattle.h264_plane.specs.Samples.{at}
use Rattle.h264_inter.specs.Chroma.{weighted}
use Rattle.h264_inter.proofs.Eighths.{weights_placed}
use Rattle.h264_inter.proofs.Blocks.{row_more, row_inside}
use Rattle.h264_inter.proofs.Moved.{pairs_from}
use Rattle.h264_inter.proofs.chroma_blocks.weighted_block.Goals as goal

pub loop-v-init : goal.loop-v-init
loop-v-init g c = record {
  above = λ b q. (omega arith);
  rows = pairs_from g.row.W c.args.p c.args.left c.args.top (c.args.top + 0) 0 0 _ (omega arith) c.pairs-upper.ensures;
}

pub loop-v-preserved : goal.loop-v-preserved
loop-v-preserved g c =
    let w = g.row.W in
    let v = c.loop-v.v in
    let k = c.weights_at-w.result in
    let out = c.loop-v.out in
    let new = c.put_row.new.out in
    let fits : w * v + w ≤ length out = omega (arith, row_inside w g.row.H v c.loop-v-test.true) in
    let count : length new ≡ w = c.put_row.ensures.whole in
    record {
      above = row_more w v _ out new (λ a b. weighted k.a k.b k.c k.d (λ i j. at c.args.p (c.args.left + a + i) (c.args.top + b + j))) fits count
          (λ x p. c.put_row.ensures.each x p ∙ c.row-row.ensures c.args.p c.args.left (c.args.top + v) c.loop-v.invariant.rows c.pairs-lower.ensures x
          (omega arith))
          c.loop-v.invariant.above;
      rows = pairs_from w c.args.p c.args.left (c.args.top + v) (c.args.top + (v + 1)) 1 0 _ (omega arith) c.pairs-lower.ensures;
    }

pub returns : goal.returns
returns g c = weights_placed c.args.x c.args.y _ _ _ _ g.row.W g.row.H (λ u v i j. at c.args.p (c.args.left + u + i) (c.args.top + v + j)) c.loop-v.out
    c.weights_at-w.ensures.each (record {
      each = λ u v p q. c.loop-v.invariant.above v (omega arith) u p;
    })
