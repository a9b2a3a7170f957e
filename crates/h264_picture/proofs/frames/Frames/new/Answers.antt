use Rattle.std.proofs.Common.{arith, refl}
use Rattle.h264_picture.proofs.Lent.{first-taken}
use Rattle.h264_picture.proofs.frames.Frames.new.Goals as goal

pub returns-clause-size : goal.returns-clause-size
returns-clause-size c =
    let some = c.requires.some in
    let count = c.in_ok-pool.ensures.count in
    first-taken c.args.width c.args.height c.in_ok-pool.pool _ (λ k i. c.in_ok-pool.ensures.size k (rw count at i)) (omega arith) c.take-frame.ensures.frame
    c.take-frame.ensures.others refl
