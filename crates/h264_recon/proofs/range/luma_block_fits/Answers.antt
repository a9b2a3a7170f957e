use Rattle.std.proofs.Common.{◌≡◌, refl, ◌+◌, ◌*◌, get_or, pos, rules, sym, ap, ◌∙◌, FitsSigned, w16}
use Rattle.h264_plane.specs.Blocks.{column_of, row_of}
use Rattle.h264_scale.specs.Residual.{residual_fits}
use Rattle.h264_scale.proofs.Whole.{none_fit}
use Rattle.h264_recon.proofs.FromLevels.{plain_at, with_dc_at}
use Rattle.h264_recon.proofs.Kept.{kept16}
use Rattle.h264_recon.proofs.range.luma_block_fits.Goals as goal

pub returns-in-NotCoded : goal.returns-in-NotCoded
returns-in-NotCoded c = rw c.in-NotCoded.is (sym (none_fit c.args.qp))

pub returns-in-Plain : goal.returns-in-Plain
returns-in-Plain c =
    let a = c.args in
    rw c.in-Plain.is (c.plain_block_fits.ensures ∙ ap residual_fits (plain_at a.qp a.b c.in-Plain.plain _ c.requires.block c.levels_at.ensures))

pub returns-in-WithDc : goal.returns-in-WithDc
returns-in-WithDc c =
    let a = c.args in
    let p = c.in-WithDc.with in
    let x = get_or p.dc (4 * c.row-y.result + c.column-x.result) (pos 0) in
    let fits : FitsSigned w16 x = search rules in
    let place : x ≡ get_or p.dc (4 * row_of a.b + column_of a.b) (pos 0) = rw (c.row-y.ensures.here, c.column-x.ensures.here) refl in
    rw c.in-WithDc.is (c.block_with_dc_fits.ensures ∙
    ap residual_fits (with_dc_at a.qp a.b p _ _ c.requires.block (kept16 x fits ∙ place) c.levels_at-in-WithDc.ensures))
