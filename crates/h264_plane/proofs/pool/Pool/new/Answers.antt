use Rattle.std.proofs.Common.{arith, length-append}
use Rattle.h264_plane.proofs.Frames.{frames_push, blank_push}
use Rattle.h264_plane.proofs.pool.Pool.new.Goals as goal

pub loop-preserved : goal.loop-preserved
loop-preserved c =
    let f = c.in_ok-new.field-0 in
    record {
      count = rw c.in_ok-push.ensures.items (simp length-append (omega arith));
      blank = rw c.in_ok-push.ensures.items (blank_push c.loop.frames.items f c.loop.counter c.loop.invariant.count c.loop.invariant.blank
          c.in_ok-new.ensures.blank);
      size = rw c.in_ok-push.ensures.items (frames_push c.loop.frames.items f c.loop.counter c.args.width c.args.height c.loop.invariant.count
          c.loop.invariant.size c.in_ok-new.ensures.size);
    }
