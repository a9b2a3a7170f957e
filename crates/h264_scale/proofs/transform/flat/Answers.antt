use Rattle.std.proofs.Common.{◌≡◌, true, false, arith, to_z, of_z, w32}
use Rattle.std.proofs.lemmas.Int.{ints}
use Rattle.std.proofs.lemmas.Grind.{common_steps}
use Rattle.h264_scale.specs.Residual.{fits_last}
use Rattle.h264_scale.proofs.Rounded.{rounded_is}
use Rattle.h264_scale.proofs.Fits.{fits_last_in}
use Rattle.h264_scale.proofs.Small.{flat_fits, flat_unfit, flat_is}
use Rattle.h264_scale.proofs.transform.flat.Goals as goal

pub returns-then-not-fits_last-clause-value : goal.returns-then-not-fits_last-clause-value
returns-then-not-fits_last-clause-value c =
    let out : fits_last c.args.dc ≡ false = grind (arith, common_steps) in
    flat_unfit c.args.dc out

pub rounded_of-requires : goal.rounded_of-requires
rounded_of-requires c =
    let fits : fits_last c.args.dc ≡ true = grind (arith, common_steps) in
    let same : to_z w32 (of_z w32 c.args.dc) ≡ c.args.dc = omega (arith, ints) in
    rw same (fits_last_in c.args.dc fits)

pub returns-clause-value : goal.returns-clause-value
returns-clause-value c =
    let fits : fits_last c.args.dc ≡ true = grind (arith, common_steps) in
    (flat_fits c.args.dc fits, flat_is c.args.dc _ (rounded_is c.rounded_of.ensures.bound (fits_last_in c.args.dc fits) c.rounded_of.ensures.value))
