use Rattle.std.proofs.Common.{ap, ◌∙◌}
use Rattle.h264_command.proofs.Kept.{at-end, gave-memory}
use Rattle.h264_command.proofs.storing.KeptBytes.give_refused.Goals as goal

pub returns-clause-bytes : goal.returns-clause-bytes
returns-clause-bytes g c =
    let same = c.turn_to_refused.ensures.left c.requires.memory c.requires.stored in
    rw same at (gave-memory g.S.Read.remaining c.turn_to_refused.new.self c.give.new.self _ _ _ c.give.ensures.others c.give.ensures.gave)

pub returns-clause-end : goal.returns-clause-end
returns-clause-end g c = λ none room. at-end g.S.Read.remaining c.give.new.self (c.give.ensures.end none room)
    (ap (λ k. k.stored) c.give.ensures.others ∙ (ap (λ k. k.stored) c.turn_to_refused.ensures.others ∙ c.requires.stored))
    (ap (λ k. k.refused.items) c.give.ensures.others ∙ c.turn_to_refused.ensures.refused)
