use Rattle.std.proofs.Common.{rules, SFits, w32, sym, ap, ◌∙◌}
use Rattle.h264_tables.specs.ChromaQp.{chroma_qp_of}
use Rattle.h264_scale.specs.Macroblock.{chroma_fits}
use Rattle.h264_scale.proofs.Whole.{levels_luma, levels_cb}
use Rattle.h264_recon.specs.ReadLevels.{levels_in, chroma_read}
use Rattle.h264_recon.proofs.FromLevels.{pcm_fits, coded_cb, coded_cr, levels_last}
use Rattle.h264_recon.proofs.Kept.{kept32}
use Rattle.h264_recon.proofs.range.residual_fits.Goals as goal

pub returns-then-is_pcm : goal.returns-then-is_pcm
returns-then-is_pcm c = sym (pcm_fits c.args.levels.now (sym c.is_pcm.ensures ∙ c.if-is_pcm.true))

pub returns-then-not-luma_fits : goal.returns-then-not-luma_fits
unfolding levels_in
returns-then-not-luma_fits c = sym (levels_luma (levels_in c.args.levels.now) (sym c.luma_fits.ensures ∙ c.if-not-luma_fits.true))

pub returns-then-not-plane_fits : goal.returns-then-not-plane_fits
unfolding levels_in
returns-then-not-plane_fits c =
    let r = c.args.levels.now in
    let fits : SFits w32 r.chroma_qp_index_offset = search rules in
    let q = c.qp_of_chroma-qp.ensures.here ∙ ap (chroma_qp_of r.read.now.qp) (kept32 r.chroma_qp_index_offset fits) in
    let l = levels_in r in
    let is = ap (λ z. chroma_fits z (chroma_read 0 r.read.now)) q ∙ ap (chroma_fits l.qp_cb) (coded_cb r (sym c.is_pcm.ensures ∙ c.if-is_pcm.false)) in
    sym (levels_cb l (sym is ∙ sym c.plane_fits.ensures ∙ c.if-not-plane_fits.true))

pub returns : goal.returns
unfolding levels_in
returns c =
    let r = c.args.levels.now in
    let fits : SFits w32 r.chroma_qp_index_offset = search rules in
    let q = c.qp_of_chroma-qp.ensures.here ∙ ap (chroma_qp_of r.read.now.qp) (kept32 r.chroma_qp_index_offset fits) in
    let l = levels_in r in
    let plain = sym c.is_pcm.ensures ∙ c.if-is_pcm.false in
    let cb = ap (λ z. chroma_fits z (chroma_read 0 r.read.now)) q ∙ ap (chroma_fits l.qp_cb) (coded_cb r plain) in
    let cr = ap (λ z. chroma_fits z (chroma_read 1 r.read.now)) q ∙ ap (chroma_fits l.qp_cr) (coded_cr r plain) in
    c.plane_fits-2.ensures ∙ cr ∙ sym (levels_last l (sym c.luma_fits.ensures ∙ c.if-not-luma_fits.false)
    (sym cb ∙ sym c.plane_fits.ensures ∙ c.if-not-plane_fits.false))
