use Rattle.std.proofs.Common.{true, false, sym, subst}
use Rattle.h264_plane.specs.declared.frame.Component.TheVariants.{Y, Cb, Cr}
use Rattle.h264_recon.specs.Lines.{store_of}
use Rattle.h264_recon.specs.Predicted.{motions_in}
use Rattle.h264_recon.specs.Residuals.{AreAdded}
use Rattle.h264_recon.specs.Weighing.{AreAllWeighted}
use Rattle.h264_recon.specs.declared.store.Samples.{Samples}
use Rattle.h264_recon.proofs.FromLevels.{if_so}
use Rattle.h264_recon.proofs.Kernels.{made_all}
use Rattle.h264_recon.proofs.Pool.{inter_made, chroma_inter}
use Rattle.h264_recon.proofs.in_place.make_inter.Goals as goal

pub returns-clause-made : goal.returns-clause-made
returns-clause-made c =
    let a = c.args in
    if_so c.add_residual.result (λ sum k m lines inside below e weights shown levels.
    let frames = a.pool.now in
    let motion = motions_in a.motions.now in
    let own = c.weigh_all.new.own in
    let new = c.add_residual.new.own in
    let predicted : Samples = c.predict.new.own in
    let weighed : AreAllWeighted m.weights predicted own = subst (λ z. AreAllWeighted z predicted own) (sym weights) c.weigh_all.ensures in
    let added : AreAdded m.levels own new = rw levels sum in
    made_all k a.position.column a.position.row m lines _
    (inter_made k frames a.position.column a.position.row m Y (store_of Y lines) motion predicted.y own.y new.y inside below e shown c.predict.ensures.y.each
    (weighed Y).each (added Y))
    (chroma_inter false k frames a.position.column a.position.row m (store_of Cb lines) motion predicted.cb own.cb new.cb inside below e shown
    c.predict.ensures.cb.each (weighed Cb) (added Cb))
    (chroma_inter true k frames a.position.column a.position.row m (store_of Cr lines) motion predicted.cr own.cr new.cr inside below e shown
    c.predict.ensures.cr.each (weighed Cr) (added Cr))) c.add_residual.ensures.added
