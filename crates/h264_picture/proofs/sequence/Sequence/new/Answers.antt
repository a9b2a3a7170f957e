use Rattle.std.proofs.Common.{refl}
use Rattle.h264_picture.proofs.Sound.{fresh, sized, counted}
use Rattle.h264_picture.proofs.sequence.Sequence.new.Goals as goal

pub invariant_of-result-clause-sound : goal.invariant_of-result-clause-sound
invariant_of-result-clause-sound c =
    let s = sized c.args.sps.now.frame_size c.requires in
    fresh c.args.sps.now.frame_size.width c.args.sps.now.frame_size.height c.in_ok-near.near s.0 s.1

pub overflow_mul-result : goal.overflow_mul-result
overflow_mul-result c = counted c.args.sps.now.frame_size c.requires

pub returns-clause-serves : goal.returns-clause-serves
returns-clause-serves c = record { row = c.in_ok-near.ensures.sized; columns = refl; macroblocks = refl }
