use Rattle.std.proofs.Common.{rules, FitsSigned, w16}
use Rattle.h264_recon.proofs.FromLevels.{shown-some}
use Rattle.h264_recon.proofs.Kept.{kept16}
use Rattle.h264_recon.proofs.range.block_with_dc_fits.Goals as goal

pub returns-then-total-eq0 : goal.returns-then-total-eq0
returns-then-total-eq0 c =
    let fits : FitsSigned w16 c.args.dc = search rules in
    rw c.if-total-eq0.true (rw (kept16 c.args.dc fits) at c.fits4_of_dc.ensures c.args.qp)

pub returns : goal.returns
returns c =
    let fits : FitsSigned w16 c.args.dc = search rules in
    rw (shown-some 15 c.args.total c.args.levels.now c.if-total-eq0.false) (rw (kept16 c.args.dc fits) at c.fits4_with_dc.ensures)
