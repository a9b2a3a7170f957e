use Rattle.std.proofs.Common.{◌≡◌, length, arith, ◌∙◌}
use Rattle.std.proofs.lemmas.Simd.{put_chunk_whole, length-chunk}
use lib.Lanes.{chunk}
use Rattle.h264_plane.proofs.Runs.{chunk_whole}
use Rattle.h264_plane.proofs.plane.put_row.Goals as goal

pub returns-then-this-eq16 : goal.returns-then-this-eq16
returns-then-this-eq16 g c =
    let row = c.args.row.now in
    let same : length c.args.out.now ≡ length (chunk 0 16 row) = omega (arith, length-chunk 0 16 row (omega arith)) in
    put_chunk_whole c.args.out.now (chunk 0 16 row) same ∙ chunk_whole 16 row (omega arith)

pub returns-then-this-eq8 : goal.returns-then-this-eq8
returns-then-this-eq8 g c =
    let row = c.args.row.now in
    let same : length c.args.out.now ≡ length (chunk 0 8 row) = omega (arith, length-chunk 0 8 row (omega arith)) in
    put_chunk_whole c.args.out.now (chunk 0 8 row) same ∙ chunk_whole 8 row (omega arith)

pub returns-then-this-eq4 : goal.returns-then-this-eq4
returns-then-this-eq4 g c =
    let row = c.args.row.now in
    let same : length c.args.out.now ≡ length (chunk 0 4 row) = omega (arith, length-chunk 0 4 row (omega arith)) in
    put_chunk_whole c.args.out.now (chunk 0 4 row) same ∙ chunk_whole 4 row (omega arith)
