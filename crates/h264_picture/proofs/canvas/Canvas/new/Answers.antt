use Rattle.std.proofs.Common.{arith}
use Rattle.h264_picture.proofs.Sound.{lined, wide-enough}
use Rattle.h264_picture.proofs.canvas.Canvas.new.Goals as goal

pub new-requires : goal.new-requires
new-requires c = record { small = (wide-enough _ c.requires.wide.1).small }

pub new-requires-2 : goal.new-requires-2
new-requires-2 c =
    let w = wide-enough _ c.requires.wide.1 in
    let h = wide-enough _ c.requires.tall.1 in
    let n = c.requires.places in
    record { some = omega arith; few = n.1; wide = w.side; tall = h.side; columns = w.whole; rows = h.whole }

pub returns : goal.returns
returns c =
    let l = c.in_ok-lines.ensures in
    record {
      lines = lined c.in_ok-lines.lines c.args.across l.y l.cb l.cr;
      frames = c.in_ok-frames.ensures.size;
      count = c.in_ok-frames.ensures.count;
    }
