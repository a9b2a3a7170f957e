use Rattle.std.proofs.Common.{◌≡◌, ◌+◌, ◌*◌, ◌/◌, ◌%◌, get_or, pos, arith, rules, refl, sym, ap, ◌∙◌, FitsSigned, w16}
use Rattle.std.proofs.lemmas.Result.{err_from_is_err_and}
use Rattle.h264_scale.specs.Residual.{residual_fits}
use Rattle.h264_scale.specs.Macroblock.{chroma_dc_fits}
use Rattle.h264_scale.proofs.Whole.{all_none, all_more, always, never, refused, chroma_dc_unfit, chroma_unfit, chroma_whole}
use Rattle.h264_recon.specs.Residuals.{raster}
use Rattle.h264_recon.proofs.ByBlock.{none_added, chroma_more}
use Rattle.h264_recon.proofs.FromLevels.{plane_at}
use Rattle.h264_recon.proofs.Kept.{kept16}
use Rattle.h264_recon.proofs.added.add_coded_plane.Goals as goal

pub returns-in_err-dc : goal.returns-in_err-dc
unfolding chroma_dc_fits
returns-in_err-dc c =
    let p = err_from_is_err_and c.from_residual.result c.from_residual.ensures.1 in
    rw p.1 (record { range = never _ (chroma_dc_unfit c.args.qp _ (refused _ c.in_err-dc.ensures.range.1)); added = tt })

pub loop-b-init : goal.loop-b-init
loop-b-init c = record { size = c.told-samples; fit = all_none _; added = none_added 8 raster _ _ }

pub loop-b-preserved : goal.loop-b-preserved
loop-b-preserved c =
    let a = c.args in
    let b = c.loop-b.b in
    let x = get_or c.in_ok-dc.dc (2 * (b / 2) + b % 2) (pos 0) in
    let short : FitsSigned w16 x = search rules in
    let is = plane_at a.qp a.c b a.mb.now a.levels.now c.in_ok-dc.dc _ (omega arith) (kept16 x short) c.in_ok-dc.ensures.scaled in
    record {
      size = c.add_chroma_block.array_long;
      fit = all_more b _ c.loop-b.invariant.fit (ap residual_fits (sym is) ∙ c.in_ok-add_chroma_block.ensures.range.0 refl);
      added = chroma_more b _ a.samples.now c.loop-b.samples c.add_chroma_block.new.samples (omega arith) c.loop-b.invariant.added
          (rw is at c.in_ok-add_chroma_block.ensures.added);
    }

pub returns-in_err-add_chroma_block : goal.returns-in_err-add_chroma_block
returns-in_err-add_chroma_block c =
    let a = c.args in
    let b = c.loop-b.b in
    let x = get_or c.in_ok-dc.dc (2 * (b / 2) + b % 2) (pos 0) in
    let short : FitsSigned w16 x = search rules in
    let is = plane_at a.qp a.c b a.mb.now a.levels.now c.in_ok-dc.dc _ (omega arith) (kept16 x short) c.in_ok-dc.ensures.scaled in
    let p = err_from_is_err_and c.from_residual-in_err-add_chroma_block.result c.from_residual-in_err-add_chroma_block.ensures.1 in
    rw p.1 (record {
      range = never _ (chroma_unfit a.qp _ b (omega arith) (ap residual_fits (sym is) ∙ refused _ c.in_err-add_chroma_block.ensures.range.1));
      added = tt;
    })

pub returns : goal.returns
unfolding chroma_dc_fits
returns c =
    let end : c.loop-b.b ≡ 4 = omega arith in
    record {
      range = always _ (chroma_whole c.args.qp _ (c.in_ok-dc.ensures.range.0 refl) (rw end at c.loop-b.invariant.fit));
      added = rw end at c.loop-b.invariant.added;
    }
