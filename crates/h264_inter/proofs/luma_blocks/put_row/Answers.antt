use Rattle.std.proofs.Common.{◌≡◌, ◌+◌, ◌<◌, List, ℕ, length, slice_index, arith, ap, ◌∙◌}
use Rattle.std.proofs.lemmas.Simd.{put_chunk_whole, get_or-chunk, length-chunk}
use lib.Lanes.{chunk}
use Rattle.h264_inter.proofs.luma_blocks.put_row.Goals as goal

pub returns-then-this-eq16-clause-each : goal.returns-then-this-eq16-clause-each
returns-then-this-eq16-clause-each g c u p =
    let same : length c.args.out.now ≡ length c.args.row = omega arith in
    ap (λ (l : List ℕ). slice_index l u) (put_chunk_whole c.args.out.now c.args.row same)

pub returns-then-this-eq8-clause-each : goal.returns-then-this-eq8-clause-each
returns-then-this-eq8-clause-each g c u p =
    let row = c.args.row in
    let same : length c.args.out.now ≡ length (chunk 0 8 row) = omega (arith, length-chunk 0 8 row (omega arith)) in
    let inside : u < 8 = omega arith in
    let place : 0 + u ≡ u = omega arith in
    ap (λ (l : List ℕ). slice_index l u) (put_chunk_whole c.args.out.now (chunk 0 8 row) same) ∙ get_or-chunk 0 8 row u 0 inside ∙ ap (slice_index row) place
