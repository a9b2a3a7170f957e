use Rattle.std.proofs.Common.{◌≡◌, ℕ, ◌<◌, sym, ap, ◌∙◌, arith}
use Rattle.h264_plane.specs.Blocks.{column_of, row_of}
use Rattle.h264_scale.specs.Residual.{residual_fits}
use Rattle.h264_scale.proofs.Whole.{all_none, all_more, refused, luma_dc_unfit, luma_unfit, luma_whole, all_to}
use Rattle.h264_recon.specs.ReadLevels.{luma_by}
use Rattle.h264_recon.proofs.range.luma_fits.Goals as goal

pub returns-in_default : goal.returns-in_default
returns-in_default c =
    let m = c.args.mb.now in
    sym (luma_dc_unfit m.qp (luma_by m.kind m) (refused _ c.in_default.ensures.range.1))

pub returns-then-is_luma_small : goal.returns-then-is_luma_small
unfolding column_of row_of
returns-then-is_luma_small c =
    let m = c.args.mb.now in
    let l = luma_by m.kind m in
    let blocks = c.in-Ok.ensures.blocks in
    let each = λ (b : ℕ) (h : b < 16).
    let column : column_of b < 4 = omega (arith, h) in
    let row : row_of b < 4 = omega (arith, h) in
    sym (ap residual_fits (blocks.each (column_of b) (row_of b) column row))
    ∙ c.is_luma_small.ensures c.if-is_luma_small.true (column_of b) (row_of b) column row in
    sym (luma_whole m.qp l blocks.dc (all_to 16 _ each))

pub returns-then-not-luma_block_fits : goal.returns-then-not-luma_block_fits
unfolding column_of row_of
returns-then-not-luma_block_fits c =
    let m = c.args.mb.now in
    let l = luma_by m.kind m in
    let b = c.loop-b.b in
    let is = ap residual_fits (c.in-Ok.ensures.blocks.each (column_of b) (row_of b) (omega arith) (omega arith)) in
    sym (luma_unfit m.qp l b (omega arith) (sym is ∙ sym c.luma_block_fits.ensures ∙ c.if-not-luma_block_fits.true))

pub loop-b-init : goal.loop-b-init
loop-b-init c = all_none _

pub loop-b-preserved : goal.loop-b-preserved
unfolding column_of row_of
loop-b-preserved c =
    let b = c.loop-b.b in
    let is = ap residual_fits (c.in-Ok.ensures.blocks.each (column_of b) (row_of b) (omega arith) (omega arith)) in
    all_more b _ c.loop-b.invariant (sym is ∙ sym c.luma_block_fits.ensures ∙ c.if-not-luma_block_fits.false)

pub returns : goal.returns
returns c =
    let m = c.args.mb.now in
    let end : c.loop-b.b ≡ 16 = omega arith in
    sym (luma_whole m.qp (luma_by m.kind m) c.in-Ok.ensures.blocks.dc (rw end at c.loop-b.invariant))
