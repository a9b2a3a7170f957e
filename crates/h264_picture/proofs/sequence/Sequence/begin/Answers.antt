use Rattle.std.proofs.Common.{Some, refl}
use Rattle.h264_picture.proofs.Canvases.{one-canvas}
use Rattle.h264_picture.proofs.Made.{nothing-made}
use Rattle.h264_picture.proofs.Sound.{same-frames}
use Rattle.h264_picture.proofs.sequence.Sequence.begin.Goals as goal

pub returns-in-Some-clause-samples : goal.returns-in-Some-clause-samples
returns-in-Some-clause-samples c e making =
    let old = c.args.self.now in
    let canvas = c.in-Some.canvas in
    let drawn = old.drawn canvas c.in-Some.is in
    nothing-made old.across old.down old.places making (Some (record { frames = c.begin.new.self; lines = canvas.lines })) old.sound.wide.0
    (one-canvas _ _ _ _ (same-frames _ _ _ canvas c.begin.new.self (c.begin.ensures.size _ _ drawn.frames) c.begin.ensures.count drawn)) refl
