use mir.Syntax.{w32}
use Rattle.std.proofs.Common.{refl, ap, ◌∙◌}
use Rattle.std.proofs.lemmas.Int.{to_z-of_z}
use Rattle.h264_dpb.specs.Shown.{frame_call}
use Rattle.h264_stream.proofs.Queued.{filled-more}
use Rattle.h264_stream.proofs.filling.FillingFrameOut.frame.Goals as goal

pub returns-in-Ok-clause-ok : goal.returns-in-Ok-clause-ok
returns-in-Ok-clause-ok g c =
    let call = frame_call c.args.count c.args.frame.now c.args.rectangle in
    let a = c.in-Ok.ensures.added in
    let is = a.1 ∙ ap (λ z. frame_call z c.args.frame.now c.args.rectangle) (to_z-of_z w32 c.args.count c.ranges.count) in
    record { told = λ before h. filled-more before call a.0 refl is a.2 c.add.ensures.handed_out h }
