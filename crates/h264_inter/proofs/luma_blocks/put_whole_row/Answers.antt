use Rattle.std.proofs.Common.{◌≡◌, ◌+◌, ◌<◌, List, ℕ, length, slice_index, arith, ap, ◌∙◌}
use Rattle.std.proofs.lemmas.Simd.{put_chunk_whole}
use Rattle.h264_inter.proofs.luma_blocks.put_whole_row.Goals as goal

pub returns-then-this-eq8-clause-each : goal.returns-then-this-eq8-clause-each
returns-then-this-eq8-clause-each g c u p =
    let same : length c.args.out.now ≡ length c.eight.result = omega arith in
    let inside : u < 8 = omega arith in
    let column : c.args.x + u < c.args.p.now.width = omega arith in
    ap (λ (l : List ℕ). slice_index l u) (put_chunk_whole c.args.out.now c.eight.result same) ∙ c.eight.ensures u inside ∙
    c.row-then-this-eq8.ensures.each (c.args.x + u) column
