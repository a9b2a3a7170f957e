use Rattle.std.proofs.Common.{◌*◌, take, drop, get_or, replicate, pos, refl, sym, ap, ◌∙◌}
use Rattle.h264_mbsyntax.specs.Stored.{shown}
use Rattle.h264_scale.specs.Macroblock.{chroma_fits}
use Rattle.h264_scale.proofs.Whole.{not_coded_chroma_fits}
use Rattle.h264_recon.proofs.FromLevels.{uncoded, coded_chroma}
use Rattle.h264_recon.proofs.range.plane_fits.Goals as goal

pub returns-then-is_plane_uncoded : goal.returns-then-is_plane_uncoded
returns-then-is_plane_uncoded c =
    let a = c.args in
    let mb = a.mb.now in
    let t = take 4 (drop (4 * a.c) mb.contexts.chroma_totals) in
    sym (not_coded_chroma_fits a.qp) ∙ ap (chroma_fits a.qp)
    (uncoded t t c.dc_levels-dc.result (shown 4 (get_or mb.residual.chroma_dc_totals a.c 0) (get_or mb.residual.chroma_dc a.c (replicate 4 (pos 0)))) _ _
    c.if-is_plane_uncoded.true c.is_plane_uncoded.ensures c.dc_levels-dc.ensures refl)

pub returns : goal.returns
returns c =
    c.coded_plane_fits.ensures ∙ ap (chroma_fits c.args.qp)
    (coded_chroma _ _ _ _ _ c.if-is_plane_uncoded.false c.is_plane_uncoded.ensures c.dc_levels-dc.ensures)
