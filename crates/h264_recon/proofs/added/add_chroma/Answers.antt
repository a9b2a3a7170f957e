use Rattle.std.proofs.Common.{refl, sym, ap, ◌∙◌}
use Rattle.std.proofs.lemmas.Result.{err_from_is_err_and}
use Rattle.h264_scale.specs.Macroblock.{chroma_fits}
use Rattle.h264_scale.proofs.Whole.{and_first, always, never, refused, not_coded_chroma_fits, no_cb, no_cr}
use Rattle.h264_recon.specs.ReadLevels.{levels_in}
use Rattle.h264_recon.proofs.ByBlock.{cb_stays, cr_stays, cb_added, cr_added}
use Rattle.h264_recon.proofs.FromLevels.{pcm_cb, pcm_cr, coded_cb, coded_cr, chroma_of, whenever, if_so, one_more}
use Rattle.h264_recon.proofs.added.add_chroma.Goals as goal
use Rattle.std.proofs.lemmas.Bool.{and_from}

pub returns-then-is_pcm-clause-range : goal.returns-then-is_pcm-clause-range
returns-then-is_pcm-clause-range c =
    let r = c.args.levels.now in
    let l = levels_in r in
    let pcm = sym c.is_pcm.ensures ∙ c.if-is_pcm.true in
    always _ (and_from _ _ (ap (chroma_fits l.qp_cb) (pcm_cb r pcm) ∙ not_coded_chroma_fits l.qp_cb)
    (ap (chroma_fits l.qp_cr) (pcm_cr r pcm) ∙ not_coded_chroma_fits l.qp_cr))

pub returns-then-is_pcm-clause-cb : goal.returns-then-is_pcm-clause-cb
returns-then-is_pcm-clause-cb c =
    let r = c.args.levels.now in
    let l = levels_in r in
    cb_stays l _ _ (record { clipped = c.add_nothing.ensures.clipped; same = c.add_nothing.ensures.same })
    (λ x y. no_cb l x y (pcm_cb r (sym c.is_pcm.ensures ∙ c.if-is_pcm.true)))

pub returns-then-is_pcm-clause-cr : goal.returns-then-is_pcm-clause-cr
returns-then-is_pcm-clause-cr c =
    let r = c.args.levels.now in
    let l = levels_in r in
    cr_stays l _ _ (record { clipped = c.add_nothing-then-is_pcm.ensures.clipped; same = c.add_nothing-then-is_pcm.ensures.same })
    (λ x y. no_cr l x y (pcm_cr r (sym c.is_pcm.ensures ∙ c.if-is_pcm.true)))

pub returns-in_err-add_plane-clause-range : goal.returns-in_err-add_plane-clause-range
unfolding levels_in
returns-in_err-add_plane-clause-range c =
    let r = c.args.levels.now in
    let e = coded_cb r (sym c.is_pcm.ensures ∙ c.if-is_pcm.false) in
    let p = err_from_is_err_and c.from_residual.result c.from_residual.ensures.1 in
    let cb = chroma_of _ _ _ _ _ _ _ c.in_err-add_plane.ensures refl e in
    rw p.1 (never _ (and_first _ _ (refused _ cb.range.1)))

pub returns-clause-range : goal.returns-clause-range
unfolding levels_in
returns-clause-range c =
    let r = c.args.levels.now in
    let plain = sym c.is_pcm.ensures ∙ c.if-is_pcm.false in
    let cb = chroma_of _ _ _ _ _ _ _ c.in_ok-add_plane.ensures refl (coded_cb r plain) in
    let cr = chroma_of _ _ _ _ _ _ _ c.add_plane-2.ensures refl (coded_cr r plain) in
    one_more _ _ _ (cb.range.0 refl) cr.range

pub returns-clause-cb : goal.returns-clause-cb
unfolding levels_in
returns-clause-cb c =
    let r = c.args.levels.now in
    let cb = chroma_of _ _ _ _ _ _ _ c.in_ok-add_plane.ensures refl (coded_cb r (sym c.is_pcm.ensures ∙ c.if-is_pcm.false)) in
    whenever _ (cb_added (levels_in r) _ _ cb.added)

pub returns-clause-cr : goal.returns-clause-cr
unfolding levels_in
returns-clause-cr c =
    let r = c.args.levels.now in
    let cr = chroma_of _ _ _ _ _ _ _ c.add_plane-2.ensures refl (coded_cr r (sym c.is_pcm.ensures ∙ c.if-is_pcm.false)) in
    if_so _ (cr_added (levels_in r) _ _) cr.added
