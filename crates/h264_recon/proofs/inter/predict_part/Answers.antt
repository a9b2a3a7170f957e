use Rattle.std.proofs.Common.{ap, ◌∙◌}
use Rattle.h264_plane.specs.Frames.{frame_at}
use Rattle.h264_recon.proofs.Parts.{luma_from, cb_from, cr_from}
use Rattle.h264_recon.proofs.inter.predict_part.Goals as goal

pub returns-clause-y : goal.returns-clause-y
returns-clause-y g c = let a = c.args in
    luma_from _ _ _ _ _ _ a.pool.now a.motion c.frame-frame.result.now _ _ (c.frame-frame.ensures ∙ ap (frame_at a.pool.now) c.from.ensures)
    c.luma_part.ensures

pub returns-clause-cb : goal.returns-clause-cb
returns-clause-cb g c = let a = c.args in
    cb_from _ _ _ _ _ _ a.pool.now a.motion c.frame-frame.result.now _ _ (c.frame-frame.ensures ∙ ap (frame_at a.pool.now) c.from.ensures)
    c.chroma_part.ensures

pub returns-clause-cr : goal.returns-clause-cr
returns-clause-cr g c = let a = c.args in
    cr_from _ _ _ _ _ _ a.pool.now a.motion c.frame-frame.result.now _ _ (c.frame-frame.ensures ∙ ap (frame_at a.pool.now) c.from.ensures)
    c.chroma_part-2.ensures
