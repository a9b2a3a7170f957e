use Rattle.std.proofs.Common.{refl, true}
use Rattle.h264_picture.proofs.Lent.{put-again, same-frame, same-size, lent-others}
use Rattle.h264_picture.proofs.frames.Frames.begin.Goals as goal

pub returns-clause-size : goal.returns-clause-size
returns-clause-size c w h =
    let put = put-again _ _ _ _ _ _ c.take-none.ensures.left (rw c.replace-frame.ensures.value at c.put_back.ensures.put) in
    same-size c.args.self.now c.args.place c.put_back.new.self c.take.new.self c.take.result put c.args.self.now.within.0 c.take.ensures.frame
    c.take.ensures.others w h _ refl refl refl

pub returns-clause-frames : goal.returns-clause-frames
returns-clause-frames c k i =
    let put = put-again _ _ _ _ _ _ c.take-none.ensures.left (rw c.replace-frame.ensures.value at c.put_back.ensures.put) in
    same-frame c.args.self.now c.args.place c.put_back.new.self c.take.new.self c.take.result put c.args.self.now.within.0 c.take.ensures.frame
    c.take.ensures.others k

pub returns-clause-others : goal.returns-clause-others
returns-clause-others c =
    let put = put-again _ _ _ _ _ _ c.take-none.ensures.left (rw c.replace-frame.ensures.value at c.put_back.ensures.put) in
    lent-others c.args.self.now c.args.place c.put_back.new.self c.take.new.self c.take.result put c.args.self.now.within.0 c.take.ensures.frame
    c.take.ensures.others true
