use Rattle.std.proofs.Common.{sym, ap, ◌∙◌}
use Rattle.h264_c.proofs.h264v_receive.Goals as goal

pub returns-in-Some-clause-first : goal.returns-in-Some-clause-first
returns-in-Some-clause-first c is =
    let l = c.in-Some.ensures in
    (l.0, l.1, ap (λ s. s.decoder.queue.waiting.items) (sym (c.deref_mut.ensures.value ∙ c.into_box-stream.ensures)) ∙ l.2, l.3)
