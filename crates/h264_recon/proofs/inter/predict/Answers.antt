use Rattle.std.proofs.Common.{◌≡◌, List, replicate, ap, sym, subst, ◌∙◌}
use Rattle.h264_recon.specs.Parts.{ArePredicted}
use Rattle.h264_recon.specs.Pool.{HaveRoom}
use Rattle.h264_recon.specs.Predicted.{motions_in, parted_motions}
use Rattle.h264_recon.specs.declared.macroblock.Motion.{Motion}
use Rattle.h264_recon.proofs.Placed.{parted-one}
use Rattle.h264_recon.proofs.inter.predict.Goals as goal

pub predict_whole-requires-clause-room : goal.predict_whole-requires-clause-room
predict_whole-requires-clause-room c =
    let a = c.args in
    let m = a.motions.now in
    let e : motions_in m ≡ replicate 16 c.motion_of.result = ap (λ z. parted_motions z m.places.now m.derived.now) c.in-P16x16.is ∙
    parted-one m.places.now m.derived.now ∙ ap (replicate 16) (sym c.motion_of.ensures) in
    subst (λ (z : List Motion). HaveRoom a.pool.now a.position.column a.position.row z) e c.requires.room

pub returns-in-P16x16 : goal.returns-in-P16x16
returns-in-P16x16 c =
    let a = c.args in
    let m = a.motions.now in
    let e : motions_in m ≡ replicate 16 c.motion_of.result = ap (λ z. parted_motions z m.places.now m.derived.now) c.in-P16x16.is ∙
    parted-one m.places.now m.derived.now ∙ ap (replicate 16) (sym c.motion_of.ensures) in
    subst (λ (z : List Motion). ArePredicted a.pool.now z a.position c.predict_whole.new.own) (sym e)
    (record { y = c.predict_whole.ensures.y; cb = c.predict_whole.ensures.cb; cr = c.predict_whole.ensures.cr })
