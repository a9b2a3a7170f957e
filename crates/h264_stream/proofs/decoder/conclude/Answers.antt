use Rattle.std.proofs.Common.{ap, ◌∙◌}
use Rattle.h264_stream.specs.Queue.{told_of_frames}
use Rattle.h264_stream.specs.declared.filling.Filling.{Filling}
use Rattle.h264_stream.proofs.Decoded.{falls, falls-grown}
use Rattle.h264_stream.proofs.Queued.{filled-begun}
use Rattle.h264_stream.proofs.decoder.conclude.Goals as goal

pub returns-clause-answers : goal.returns-clause-answers
returns-clause-answers g c terms bytes d =
    let begun = filled-begun (ap (λ q. q.handed_out) c.new-sink.ensures.queue ∙ c.requires.handed_out)
    (ap (λ q. told_of_frames q.waiting.items) c.new-sink.ensures.queue ∙ c.requires.waiting) in
    let j = c.finish.ensures.verdict terms bytes d.frames d.told d.fed in
    rw c.into_parts-queue.ensures (falls (λ (s : Filling g.row.K.Denot). s.queue.handed_out) (λ s. s.queue.waiting.items) _ _ g.K.Before.handed_out
    g.K.Before.waiting c.requires.handed_out c.requires.waiting d begun _ _ c.told_answer-answer.ensures (λ e. c.finish.ensures.no_read d.fed.runs e) j)

pub returns-clause-grows : goal.returns-clause-grows
returns-clause-grows g c terms bytes d =
    let begun = filled-begun (ap (λ q. q.handed_out) c.new-sink.ensures.queue ∙ c.requires.handed_out)
    (ap (λ q. told_of_frames q.waiting.items) c.new-sink.ensures.queue ∙ c.requires.waiting) in
    let j = c.finish.ensures.verdict terms bytes d.frames d.told d.fed in
    rw c.into_parts-queue.ensures (falls-grown (λ (s : Filling g.row.K.Denot). s.queue.handed_out) (λ s. s.queue.waiting.items) _ _ g.K.Before.handed_out
    g.K.Before.waiting c.requires.handed_out c.requires.waiting d begun _ j)
