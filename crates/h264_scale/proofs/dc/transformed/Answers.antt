use Rattle.std.proofs.Common.{◌≡◌, true, arith}
use Rattle.std.proofs.lemmas.Grind.{common_steps}
use Rattle.h264_scale.specs.Fours.{block_fits}
use Rattle.h264_scale.proofs.Fits.{block_in}
use Rattle.h264_scale.proofs.dc.transformed.Goals as goal

pub scaled_block-dc-requires-clause-range : goal.scaled_block-dc-requires-clause-range
scaled_block-dc-requires-clause-range c =
    let fits : block_fits c.hadamard-f.result ≡ true = grind (arith, common_steps) in
    block_in c.hadamard-f.result fits

pub rows-requires : goal.rows-requires
rows-requires c =
    let fits : block_fits c.scaled_block-dc.result ≡ true = grind (arith, common_steps) in
    block_in c.scaled_block-dc.result fits
