use Rattle.std.proofs.Common.{[], Err, ap, ◌∙◌}
use Rattle.h264_stream.specs.Queue.{told_of_frames}
use Rattle.h264_stream.specs.declared.filling.Filling.{Filling}
use Rattle.h264_stream.proofs.Decoded.{falls, falls-grown, goes, goes-grown, same-stop}
use Rattle.h264_stream.proofs.Queued.{filled-begun}
use Rattle.h264_stream.proofs.decoder.feed.Goals as goal

pub returns-in-Ok-clause-goes : goal.returns-in-Ok-clause-goes
returns-in-Ok-clause-goes g c terms bytes d =
    let begun = filled-begun (ap (λ q. q.handed_out) c.new-sink.ensures.queue ∙ c.requires.handed_out)
    (ap (λ q. told_of_frames q.waiting.items) c.new-sink.ensures.queue ∙ c.requires.waiting) in
    rw c.into_parts-queue.ensures (goes (λ (s : Filling g.row.K.Denot). s.queue.handed_out) (λ s. s.queue.waiting.items) _ _ g.K.Before.handed_out
    g.K.Before.waiting c.requires.handed_out c.requires.waiting d begun (c.in-Ok.ensures.fed terms bytes d.frames d.told d.fed))

pub returns-in-Ok-clause-grows : goal.returns-in-Ok-clause-grows
returns-in-Ok-clause-grows g c terms bytes d =
    let begun = filled-begun (ap (λ q. q.handed_out) c.new-sink.ensures.queue ∙ c.requires.handed_out)
    (ap (λ q. told_of_frames q.waiting.items) c.new-sink.ensures.queue ∙ c.requires.waiting) in
    rw c.into_parts-queue.ensures (goes-grown (λ (s : Filling g.row.K.Denot). s.queue.handed_out) (λ s. s.queue.waiting.items) _ _ g.K.Before.handed_out
    g.K.Before.waiting c.requires.handed_out c.requires.waiting d begun (c.in-Ok.ensures.fed terms bytes d.frames d.told d.fed))

pub returns-in-Err-clause-answers : goal.returns-in-Err-clause-answers
returns-in-Err-clause-answers g c terms bytes d later =
    let begun = filled-begun (ap (λ q. q.handed_out) c.new-sink.ensures.queue ∙ c.requires.handed_out)
    (ap (λ q. told_of_frames q.waiting.items) c.new-sink.ensures.queue ∙ c.requires.waiting) in
    let j = c.in-Err.ensures.stops terms bytes d.frames d.told d.fed later in
    rw c.into_parts-queue.ensures (falls (λ (s : Filling g.row.K.Denot). s.queue.handed_out) (λ s. s.queue.waiting.items) _ _ g.K.Before.handed_out
    g.K.Before.waiting c.requires.handed_out c.requires.waiting d begun _ _ c.told_answer.ensures
    (λ e. c.in-Err.ensures.no_read d.fed.runs (ap (λ x. Err x) (same-stop e))) j)

pub returns-in-Err-clause-grows : goal.returns-in-Err-clause-grows
returns-in-Err-clause-grows g c terms bytes d =
    let begun = filled-begun (ap (λ q. q.handed_out) c.new-sink.ensures.queue ∙ c.requires.handed_out)
    (ap (λ q. told_of_frames q.waiting.items) c.new-sink.ensures.queue ∙ c.requires.waiting) in
    let j = c.in-Err.ensures.stops terms bytes d.frames d.told d.fed [] in
    rw c.into_parts-queue.ensures (falls-grown (λ (s : Filling g.row.K.Denot). s.queue.handed_out) (λ s. s.queue.waiting.items) _ _ g.K.Before.handed_out
    g.K.Before.waiting c.requires.handed_out c.requires.waiting d begun _ j)
