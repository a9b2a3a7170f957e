use Rattle.std.proofs.Common.{◌↔◌, ◌≡◌, refl, ◌∙◌, ◌+◌, ◌*◌, ℕ, ℤ, [], IsOk, IfOk, IsTrue, unwrap_or, get_or, pos, rules, FitsSigned, w16, subst}
use Rattle.h264_plane.specs.Blocks.{column_of, row_of}
use Rattle.h264_scale.specs.Residual.{residual_fits, residual_at, HasEntries}
use Rattle.h264_scale.proofs.Whole.{always, none_fit}
use Rattle.h264_recon.proofs.ByBlock.{none_coded}
use Rattle.h264_recon.proofs.FromLevels.{plain_at, with_dc_at}
use Rattle.h264_recon.proofs.Kept.{kept16}
use Rattle.h264_recon.proofs.scaled.luma_block.Goals as goal

pub returns-in-NotCoded-clause-range : goal.returns-in-NotCoded-clause-range
returns-in-NotCoded-clause-range c = rw c.in-NotCoded.is (always _ (none_fit c.args.qp))

pub returns-in-NotCoded-clause-residual : goal.returns-in-NotCoded-clause-residual
returns-in-NotCoded-clause-residual c = rw c.in-NotCoded.is (none_coded c.args.qp)

pub returns-in-Plain-clause-range : goal.returns-in-Plain-clause-range
returns-in-Plain-clause-range c =
    let a = c.args in
    let p = c.in-Plain.plain in
    let is = plain_at a.qp a.b p _ c.requires.block c.levels_at.ensures in
    rw c.in-Plain.is (subst (λ (d : ℕ → ℕ → ℤ). IsOk c.plain_block.result ↔ IsTrue (residual_fits d)) is c.plain_block.ensures.range)

pub returns-in-Plain-clause-residual : goal.returns-in-Plain-clause-residual
returns-in-Plain-clause-residual c =
    let a = c.args in
    let p = c.in-Plain.plain in
    let is = plain_at a.qp a.b p _ c.requires.block c.levels_at.ensures in
    rw c.in-Plain.is (subst (λ (d : ℕ → ℕ → ℤ). IfOk c.plain_block.result (λ r. HasEntries (unwrap_or r []) (residual_at d))) is c.plain_block.ensures.residual)

pub returns-in-WithDc-clause-range : goal.returns-in-WithDc-clause-range
returns-in-WithDc-clause-range c =
    let a = c.args in
    let p = c.in-WithDc.with in
    let x = get_or p.dc (4 * c.row-y.result + c.column-x.result) (pos 0) in
    let fits : FitsSigned w16 x = search rules in
    let place : x ≡ get_or p.dc (4 * row_of a.b + column_of a.b) (pos 0) = rw (c.row-y.ensures.here, c.column-x.ensures.here) refl in
    let is = with_dc_at a.qp a.b p _ _ c.requires.block (kept16 x fits ∙ place) c.levels_at-in-WithDc.ensures in
    rw c.in-WithDc.is (subst (λ (d : ℕ → ℕ → ℤ). IsOk c.block_with_dc.result ↔ IsTrue (residual_fits d)) is c.block_with_dc.ensures.range)

pub returns-in-WithDc-clause-residual : goal.returns-in-WithDc-clause-residual
returns-in-WithDc-clause-residual c =
    let a = c.args in
    let p = c.in-WithDc.with in
    let x = get_or p.dc (4 * c.row-y.result + c.column-x.result) (pos 0) in
    let fits : FitsSigned w16 x = search rules in
    let place : x ≡ get_or p.dc (4 * row_of a.b + column_of a.b) (pos 0) = rw (c.row-y.ensures.here, c.column-x.ensures.here) refl in
    let is = with_dc_at a.qp a.b p _ _ c.requires.block (kept16 x fits ∙ place) c.levels_at-in-WithDc.ensures in
    rw c.in-WithDc.is (subst (λ (d : ℕ → ℕ → ℤ). IfOk c.block_with_dc.result (λ r. HasEntries (unwrap_or r []) (residual_at d))) is
    c.block_with_dc.ensures.residual)
