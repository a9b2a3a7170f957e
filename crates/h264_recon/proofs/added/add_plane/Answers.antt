use Rattle.std.proofs.Common.{◌*◌, take, drop, get_or, replicate, pos, rules, refl, ap, ◌∙◌, SFits, w32}
use Rattle.h264_tables.specs.ChromaQp.{chroma_qp_of}
use Rattle.h264_mbsyntax.specs.Stored.{shown}
use Rattle.h264_scale.specs.declared.levels.ChromaLevels.TheVariants as chroma
use Rattle.h264_scale.proofs.Whole.{always, not_coded_chroma_fits}
use Rattle.h264_recon.proofs.ByBlock.{plane_stays}
use Rattle.h264_recon.proofs.FromLevels.{uncoded, coded_chroma, chroma_of}
use Rattle.h264_recon.proofs.Kept.{kept32}
use Rattle.h264_recon.proofs.added.add_plane.Goals as goal

pub returns-then-is_plane_uncoded : goal.returns-then-is_plane_uncoded
returns-then-is_plane_uncoded c =
    let a = c.args in
    let mb = a.levels.now.read.now in
    let t = take 4 (drop (4 * a.c) mb.contexts.chroma_totals) in
    let qp = chroma_qp_of mb.qp a.levels.now.chroma_qp_index_offset in
    chroma_of qp qp chroma.NotCoded _ _ _ _
    (record {
      range = always _ (not_coded_chroma_fits qp);
      added = plane_stays qp _ _ (record { clipped = c.add_nothing.ensures.clipped; same = c.add_nothing.ensures.same });
    })
    refl
    (uncoded t t c.dc_levels-dc.result (shown 4 (get_or mb.residual.chroma_dc_totals a.c 0) (get_or mb.residual.chroma_dc a.c (replicate 4 (pos 0)))) _ _
    c.if-is_plane_uncoded.true c.is_plane_uncoded.ensures c.dc_levels-dc.ensures refl)

pub returns : goal.returns
returns c =
    let a = c.args in
    let z = a.levels.now.chroma_qp_index_offset in
    let fits : SFits w32 z = search rules in
    let q = c.qp_of_chroma-qp.ensures.here ∙ ap (chroma_qp_of a.levels.now.read.now.qp) (kept32 z fits) in
    let e = coded_chroma _ _ _ _ _ c.if-is_plane_uncoded.false c.is_plane_uncoded.ensures c.dc_levels-dc.ensures in
    chroma_of _ _ _ _ _ _ _ c.add_coded_plane.ensures q e
