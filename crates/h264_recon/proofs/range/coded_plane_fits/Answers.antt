use Rattle.std.proofs.Common.{◌≡◌, ◌+◌, ◌*◌, ◌/◌, ◌%◌, get_or, pos, arith, rules, refl, sym, ap, ◌∙◌, FitsSigned, w16}
use Rattle.h264_scale.specs.Residual.{residual_fits}
use Rattle.h264_scale.specs.Macroblock.{chroma_dc_fits}
use Rattle.h264_scale.proofs.Whole.{all_none, all_more, refused, chroma_dc_unfit, chroma_unfit, chroma_whole}
use Rattle.h264_recon.proofs.FromLevels.{plane_at}
use Rattle.h264_recon.proofs.Kept.{kept16}
use Rattle.h264_recon.proofs.range.coded_plane_fits.Goals as goal

pub returns-in_default : goal.returns-in_default
unfolding chroma_dc_fits
returns-in_default c = sym (chroma_dc_unfit c.args.qp _ (refused _ c.in_default.ensures.range.1))

pub returns-then-not-chroma_block_fits : goal.returns-then-not-chroma_block_fits
returns-then-not-chroma_block_fits c =
    let a = c.args in
    let b = c.loop-b.b in
    let x = get_or c.in-Ok.dc (2 * (b / 2) + b % 2) (pos 0) in
    let short : FitsSigned w16 x = search rules in
    let is = plane_at a.qp a.c b a.mb.now a.levels.now c.in-Ok.dc _ (omega arith) (kept16 x short) c.in-Ok.ensures.scaled in
    sym (chroma_unfit a.qp _ b (omega arith)
    (ap residual_fits (sym is) ∙ sym c.chroma_block_fits.ensures ∙ c.if-not-chroma_block_fits.true))

pub loop-b-init : goal.loop-b-init
loop-b-init c = all_none _

pub loop-b-preserved : goal.loop-b-preserved
loop-b-preserved c =
    let a = c.args in
    let b = c.loop-b.b in
    let x = get_or c.in-Ok.dc (2 * (b / 2) + b % 2) (pos 0) in
    let short : FitsSigned w16 x = search rules in
    let is = plane_at a.qp a.c b a.mb.now a.levels.now c.in-Ok.dc _ (omega arith) (kept16 x short) c.in-Ok.ensures.scaled in
    all_more b _ c.loop-b.invariant (ap residual_fits (sym is) ∙ sym c.chroma_block_fits.ensures ∙ c.if-not-chroma_block_fits.false)

pub returns : goal.returns
unfolding chroma_dc_fits
returns c =
    let end : c.loop-b.b ≡ 4 = omega arith in
    sym (chroma_whole c.args.qp _ (c.in-Ok.ensures.range.0 refl) (rw end at c.loop-b.invariant))
