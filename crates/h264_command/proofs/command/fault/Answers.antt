use Rattle.std.proofs.Common.{refl, ap, ◌∙◌}
use Rattle.std.proofs.lemmas.Bool.{false≢true}
use Rattle.h264_report.specs.Written.{status_of}
use Rattle.h264_command.specs.Commands.{Refused, Short}
use Rattle.h264_command.proofs.command.fault.Goals as goal

pub returns-then-eq : goal.returns-then-eq
returns-then-eq g c = λ words k. Short c.put_memory.result.written
    (c.status.ensures ∙ ap (λ answer. status_of c.put_memory.result.written answer) c.put_memory.ensures.answer) c.put_memory.ensures.failed
    c.put_memory.ensures.handed_over c.put_memory.ensures.text refl

pub returns-in-Ok : goal.returns-in-Ok
returns-in-Ok g c = λ words k. Refused (λ t. absurd (false≢true (rw (c.kind.ensures, k t) at c.if-eq.ensures))) c.refused.ensures.status refl
    c.refused.ensures.handed_over

pub returns-in-Err : goal.returns-in-Err
returns-in-Err g c = λ words k. Short c.put_memory-in-Err.result.written
    (c.status-in-Err.ensures ∙ ap (λ answer. status_of c.put_memory-in-Err.result.written answer) c.put_memory-in-Err.ensures.answer)
    c.put_memory-in-Err.ensures.failed c.put_memory-in-Err.ensures.handed_over c.put_memory-in-Err.ensures.text refl
