use Rattle.h264_lines.proofs.Framed.{passed-y4m, y4m-none}
use Rattle.std.proofs.Common.{refl}
use Rattle.h264_lines.proofs.Sinks.{on-err-all}
use Rattle.h264_lines.proofs.y4m_sink.Y4mSinkElements.element.Goals as goal

pub returns-then-is_stopped-clause-refused : goal.returns-then-is_stopped-clause-refused
returns-then-is_stopped-clause-refused g c = rw c.fail.ensures.others (on-err-all c.fail.result (record { told = λ before h. y4m-none h }))

pub returns-clause-ok : goal.returns-clause-ok
returns-clause-ok g c = record {
  told = λ before h. passed-y4m c.args.self.now.broke_off before _ (c.is_stopped.ensures.whole c.if-is_stopped.false) refl (λ head. tt) h;
}
