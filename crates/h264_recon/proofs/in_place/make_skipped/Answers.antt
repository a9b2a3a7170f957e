use Rattle.std.proofs.Common.{◌≡◌, true, false, replicate, sym, ap, subst}
use Rattle.h264_plane.specs.declared.frame.Component.TheVariants.{Y, Cb, Cr}
use Rattle.h264_recon.specs.Lines.{store_of}
use Rattle.h264_recon.specs.Placed.{weights_by}
use Rattle.h264_recon.specs.Pool.{HaveRoom}
use Rattle.h264_recon.specs.Predicted.{Inter}
use Rattle.h264_recon.specs.Skips.{skipped}
use Rattle.h264_recon.specs.declared.store.Samples.{Samples}
use Rattle.h264_recon.proofs.ByBlock.{luma_stays, cb_stays, cr_stays}
use Rattle.h264_recon.proofs.Kernels.{made_all}
use Rattle.h264_recon.proofs.Pool.{inter_made, chroma_inter}
use Rattle.h264_recon.proofs.in_place.make_skipped.Goals as goal

pub predict_whole-requires-clause-room : goal.predict_whole-requires-clause-room
predict_whole-requires-clause-room c = let a = c.args in
    subst (λ z. HaveRoom a.pool.now a.position.column a.position.row (replicate 16 z)) (sym c.motion-whole.ensures) c.requires.usable

pub returns-clause-made : goal.returns-clause-made
returns-clause-made c k l inside below shown none =
    let a = c.args in
    let frames = a.pool.now in
    let lines = a.lines.now in
    let m = skipped a.skipped.now a.references.now.places.now (weights_by a.references.now.weights.now) l in
    let motion = replicate 16 c.motion-whole.result in
    let e : m.prediction ≡ Inter motion = ap (λ z. Inter (replicate 16 z)) (sym c.motion-whole.ensures) in
    let own = c.weigh_skipped.new.own in
    let predicted : Samples = c.predict_whole.new.own in
    let weighed = c.weigh_skipped.ensures in
    made_all k a.position.column a.position.row m lines _
    (inter_made k frames a.position.column a.position.row m Y (store_of Y lines) motion predicted.y own.y c.add_nothing.new.samples inside below e shown
    c.predict_whole.ensures.y.each (weighed Y).each
    (luma_stays l _ _ (record { clipped = c.add_nothing.ensures.clipped; same = c.add_nothing.ensures.same }) (λ x y i j. none Y x y)))
    (chroma_inter false k frames a.position.column a.position.row m (store_of Cb lines) motion predicted.cb own.cb c.add_nothing-2.new.samples inside below e
    shown
    c.predict_whole.ensures.cb.each (weighed Cb)
    (cb_stays l _ _ (record { clipped = c.add_nothing-2.ensures.clipped; same = c.add_nothing-2.ensures.same }) (none Cb)))
    (chroma_inter true k frames a.position.column a.position.row m (store_of Cr lines) motion predicted.cr own.cr c.add_nothing-3.new.samples inside below e
    shown
    c.predict_whole.ensures.cr.each (weighed Cr)
    (cr_stays l _ _ (record { clipped = c.add_nothing-3.ensures.clipped; same = c.add_nothing-3.ensures.same }) (none Cr)))
