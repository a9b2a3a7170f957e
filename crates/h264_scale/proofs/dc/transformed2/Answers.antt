use Rattle.std.proofs.Common.{◌≡◌, true, arith}
use Rattle.std.proofs.lemmas.Grind.{common_steps}
use Rattle.h264_scale.specs.Fours.{four_fits}
use Rattle.h264_scale.proofs.Fits.{four_in}
use Rattle.h264_scale.proofs.dc.transformed2.Goals as goal

pub scaled_corners-scaled-requires-clause-range : goal.scaled_corners-scaled-requires-clause-range
scaled_corners-scaled-requires-clause-range c =
    let fits : four_fits c.corners-f.result ≡ true = grind (arith, common_steps) in
    four_in c.corners-f.result fits

pub row-requires : goal.row-requires
row-requires c =
    let fits : four_fits c.scaled_corners-scaled.result ≡ true = grind (arith, common_steps) in
    four_in c.scaled_corners-scaled.result fits
