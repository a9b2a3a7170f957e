use Rattle.std.proofs.Common.{refl}
use Rattle.h264_lines.proofs.Sinks.{on-err-all}
use Rattle.h264_compare.proofs.Adding.{compared-more, compared-none}
use Rattle.h264_compare.proofs.sink.CompareSinkFrameOut.frame.Goals as goal

pub returns-then-is_stopped-clause-refused : goal.returns-then-is_stopped-clause-refused
returns-then-is_stopped-clause-refused g c =
    rw c.fail.ensures.others (on-err-all c.fail.result (record { told = λ before h. (compared-none _ _ h.0, h.1) }))

pub returns-clause-ok : goal.returns-clause-ok
returns-clause-ok g c = record {
  told = λ before h. (compared-more _ _ _ refl (c.is_stopped.ensures.whole c.if-is_stopped.false) h.1 c.compare_frame-lack.ensures h.0, h.1);
}
