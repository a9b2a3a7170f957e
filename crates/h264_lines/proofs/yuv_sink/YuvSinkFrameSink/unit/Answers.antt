use Rattle.std.proofs.Common.{refl}
use Rattle.h264_lines.proofs.Sinks.{passed, frames-none, on-err-all}
use Rattle.h264_lines.proofs.yuv_sink.YuvSinkFrameSink.unit.Goals as goal

pub returns-then-self-clause-refused : goal.returns-then-self-clause-refused
returns-then-self-clause-refused g c = rw c.fail.ensures.others (on-err-all c.fail.result (record { told = λ before h. frames-none h }))

pub returns-clause-ok : goal.returns-clause-ok
returns-clause-ok g c = record { told = λ before h. passed c.args.self.now.broke_off before _ c.if-self.false refl h }
