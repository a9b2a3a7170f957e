use Rattle.std.proofs.Common.{◌≡◌, arith, to_z, of_z, w16, pos, sym, ap, ◌∙◌}
use Rattle.std.proofs.lemmas.Int.{ints}
use Rattle.std.proofs.lemmas.Result.{err_from_is_err_and}
use Rattle.h264_scale.proofs.Whole.{no_dc_fits, always, never, refused}
use Rattle.h264_recon.proofs.ByBlock.{none_with_dc}
use Rattle.h264_recon.proofs.scaled.block_with_dc.Goals as goal

pub returns-then-dc-eq0-clause-range : goal.returns-then-dc-eq0-clause-range
returns-then-dc-eq0-clause-range c =
    let same : to_z w16 (of_z w16 c.args.dc) ≡ c.args.dc = omega (arith, ints) in
    let zero : c.args.dc ≡ pos 0 = sym same ∙ ap (to_z w16) c.if-dc-eq0.true in
    rw (c.if-total-ne0.false, zero) (always _ (no_dc_fits c.args.qp))

pub returns-then-dc-eq0-clause-residual : goal.returns-then-dc-eq0-clause-residual
returns-then-dc-eq0-clause-residual c =
    let same : to_z w16 (of_z w16 c.args.dc) ≡ c.args.dc = omega (arith, ints) in
    let zero : c.args.dc ≡ pos 0 = sym same ∙ ap (to_z w16) c.if-dc-eq0.true in
    rw (c.if-total-ne0.false, zero) (none_with_dc c.args.qp)

pub returns-in_err-residual4_of_dc-clause-range : goal.returns-in_err-residual4_of_dc-clause-range
returns-in_err-residual4_of_dc-clause-range c =
    let same : to_z w16 (of_z w16 c.args.dc) ≡ c.args.dc = omega (arith, ints) in
    let p = err_from_is_err_and c.from_residual-in_err-residual4_of_dc.result c.from_residual-in_err-residual4_of_dc.ensures.1 in
    let range = rw same at c.in_err-residual4_of_dc.ensures.range c.args.qp in
    rw (c.if-total-ne0.false, p.1) (never _ (refused _ range.1))

pub returns-clause-range : goal.returns-clause-range
returns-clause-range c =
    let same : to_z w16 (of_z w16 c.args.dc) ≡ c.args.dc = omega (arith, ints) in
    rw c.if-total-ne0.false (rw same at c.in_ok-residual4_of_dc.ensures.range c.args.qp)

pub returns-clause-residual : goal.returns-clause-residual
returns-clause-residual c =
    let same : to_z w16 (of_z w16 c.args.dc) ≡ c.args.dc = omega (arith, ints) in
    rw c.if-total-ne0.false (rw same at c.in_ok-residual4_of_dc.ensures.residual c.args.qp)
