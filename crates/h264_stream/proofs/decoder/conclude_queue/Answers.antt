use Rattle.std.proofs.Common.{subst}
use Rattle.h264_stream.specs.Decoding.{IsDecoding, HasDecoded, HasGrown}
use Rattle.h264_stream.proofs.decoder.conclude_queue.Goals as goal

pub returns-clause-grows : goal.returns-clause-grows
returns-clause-grows c terms bytes d =
    subst (λ q. IsDecoding terms c.args.session bytes q.handed_out q.waiting.items →
    HasGrown q.handed_out q.waiting.items c.conclude-concluded.result.queue.handed_out c.conclude-concluded.result.queue.waiting.items)
    c.take_all.ensures (c.conclude-concluded.ensures.grows terms bytes) d

pub returns-clause-answers : goal.returns-clause-answers
returns-clause-answers c terms bytes d =
    subst (λ q. IsDecoding terms c.args.session bytes q.handed_out q.waiting.items →
    HasDecoded terms bytes c.conclude-concluded.result.answer c.conclude-concluded.result.queue.handed_out c.conclude-concluded.result.queue.waiting.items)
    c.take_all.ensures (c.conclude-concluded.ensures.answers terms bytes) d
