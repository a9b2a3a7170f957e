use Rattle.std.proofs.Common.{◌≡◌, ◌-◌, ◌-ℤ◌, pos, arith, to_z, of_z, w32}
use Rattle.std.proofs.lemmas.Int.{ints}
use Rattle.h264_intra.proofs.Bounds.{product_kept}
use Rattle.h264_intra.proofs.slope.rise.Goals as goal
use Rattle.h264_plane.specs.Clip.{IsIn}

pub returns-clause-bound : goal.returns-clause-bound
returns-clause-bound g c =
    let a = c.args in
    let place : to_z w32 (of_z w32 (to_z w32 a.x -ℤ to_z w32 (of_z w32 (to_z w32 g.row.HALF -ℤ pos 1)))) ≡ pos a.x -ℤ pos (g.row.HALF - 1) =
    omega (arith, ints) in
    let near : IsIn 8 (pos a.x -ℤ pos (g.row.HALF - 1)) = record { low = omega (arith, ints); high = omega (arith, ints) } in
    let slope : to_z w32 (of_z w32 a.slope) ≡ a.slope = omega (arith, ints) in
    rw (slope, place) (product_kept a.slope (pos a.x -ℤ pos (g.row.HALF - 1)) c.requires.slope near)
