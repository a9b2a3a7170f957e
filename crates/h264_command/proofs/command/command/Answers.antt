use Rattle.std.proofs.Common.{map, string_bytes, refl, subst, codes}
use Rattle.h264_command.specs.Commands.{Refused, Faulted}
use Rattle.h264_words.specs.Options.{IsPlain}
use Rattle.h264_words.specs.Words.{IsTarget, value_in}
use Rattle.h264_command.proofs.command.command.Goals as goal

pub returns-in-Err-clause-comes : goal.returns-in-Err-clause-comes
returns-in-Err-clause-comes g c = Faulted (c.fault.ensures (map (λ w. string_bytes w) c.args.words.now) c.in-Err.ensures.refused)

pub returns-in-Ok-None-clause-comes : goal.returns-in-Ok-None-clause-comes
returns-in-Ok-None-clause-comes g c = Faulted
    (Refused (λ t. rw c.in-Ok-None.field-0-is at c.in-Ok-None.ensures.words) c.refused.ensures.status refl c.refused.ensures.handed_over)

pub returns-in-Some-clause-comes : goal.returns-in-Some-clause-comes
returns-in-Some-clause-comes g c = c.serve.ensures (map (λ w. string_bytes w) c.args.words.now) (rw c.in-Ok-Some.field-0-is at c.in-Ok-Some.ensures.words)
    (subst (λ given. IsPlain given c.in-Ok-Some.wanted.request.file.now) (rw c.in-Ok-Some.field-0-is at c.in-Ok-Some.ensures.matches) c.in-Some.ensures.plain)
    (subst (λ given. IsTarget (value_in given (codes "target")) c.in-Some.target) (rw c.in-Ok-Some.field-0-is at c.in-Ok-Some.ensures.matches)
    c.in-Some.ensures.target)
