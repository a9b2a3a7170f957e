use Rattle.std.proofs.Common.{refl}
use Rattle.h264_lines.proofs.Sinks.{on-err-all}
use Rattle.h264_compare.proofs.Adding.{compared-pass, compared-none}
use Rattle.h264_compare.proofs.sink.CompareSinkElements.element.Goals as goal

pub returns-then-is_stopped-clause-refused : goal.returns-then-is_stopped-clause-refused
returns-then-is_stopped-clause-refused g c =
    rw c.fail.ensures.others (on-err-all c.fail.result (record { told = λ before h. (compared-none _ _ h.0, h.1) }))

pub returns-clause-ok : goal.returns-clause-ok
returns-clause-ok g c = record { told = λ before h. (compared-pass _ _ _ refl h.0, h.1) }
