use Rattle.std.proofs.Common.{◌≡◌, ℕ, zero, suc, ◌<◌, true, ℤ, List, get_or, arith}
use Rattle.h264_plane.specs.Blocks.{number_of}
use Rattle.h264_mbsyntax.specs.Stored.{shown}
use Rattle.h264_scale.specs.Residual.{d_of, residual_fits}
use Rattle.h264_scale.proofs.Whole.{none_fit}
use Rattle.h264_recon.proofs.range.is_luma_small.Goals as goal

-- a block that fits fits where it has no coefficients too
shown_fits : (qp total : ℕ) (l : List ℤ) → residual_fits (d_of l qp) ≡ true → residual_fits (d_of (shown 16 total l) qp) ≡ true
unfolding residual_fits
shown_fits qp zero l fits = none_fit qp
shown_fits qp (suc total) l fits = fits

pub returns-in-NotCoded : goal.returns-in-NotCoded
returns-in-NotCoded c small x y p q = rw c.in-NotCoded.is (none_fit c.args.qp)

pub returns-in-Plain : goal.returns-in-Plain
unfolding number_of
returns-in-Plain c small x y p q =
    let here : number_of x y < 16 = omega arith in
    rw c.in-Plain.is (shown_fits c.args.qp (get_or c.in-Plain.plain.totals.now (number_of x y) 0) _ (c.are_small_together.ensures small (number_of x y) here))
