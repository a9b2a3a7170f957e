use Rattle.std.proofs.Common.{◌≡◌, true, arith}
use Rattle.std.proofs.lemmas.Grind.{common_steps}
use Rattle.h264_scale.specs.Fours.{block_fits, block_fits_last}
use Rattle.h264_scale.proofs.Fits.{block_in, block_last_in}
use Rattle.h264_scale.proofs.transform.tested_residual.Goals as goal

pub row_halves-e-requires : goal.row_halves-e-requires
row_halves-e-requires c =
    let fits : block_fits c.args.d ≡ true = grind (arith, common_steps) in
    block_in c.args.d fits

pub row_joined-f-requires : goal.row_joined-f-requires
row_joined-f-requires c =
    let fits : block_fits c.row_halves-e.result ≡ true = grind (arith, common_steps) in
    block_in c.row_halves-e.result fits

pub halves-g-requires : goal.halves-g-requires
halves-g-requires c =
    let fits : block_fits c.row_joined-f.result ≡ true = grind (arith, common_steps) in
    block_in c.row_joined-f.result fits

pub joined-h-requires : goal.joined-h-requires
joined-h-requires c =
    let fits : block_fits c.halves-g.result ≡ true = grind (arith, common_steps) in
    block_in c.halves-g.result fits

pub rounded_rows-requires : goal.rounded_rows-requires
rounded_rows-requires c =
    let fits : block_fits_last c.joined-h.result ≡ true = grind (arith, common_steps) in
    block_last_in c.joined-h.result fits
