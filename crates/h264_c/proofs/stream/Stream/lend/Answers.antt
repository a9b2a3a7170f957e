use Rattle.std.proofs.Common.{◌≡◌, ◌∷◌, subst}
use Rattle.std.specs.Prelude.{IfSome}
use Rattle.h264_c.proofs.stream.Stream.lend.Goals as goal

pub returns-in-Some : goal.returns-in-Some
returns-in-Some c =
    let taken = rw c.take_back.ensures at c.take_frame.ensures.first in
    let first = subst (λ r. IfSome r (λ f. c.args.self.now.decoder.queue.waiting.items ≡ f ∷ c.take_frame.new.self.queue.waiting.items)) c.in-Some.is taken in
    (c.in-Some.lent, c.take_frame.new.self.queue.waiting.items, first, c.frame_of.ensures, c.in-Some.is)
