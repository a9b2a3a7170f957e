use Rattle.std.proofs.Common.{true, refl}
use Rattle.h264_dpb.specs.Shown.{frame_call}
use Rattle.h264_lines.proofs.Sinks.{take-frame, frames-none, on-err-all}
use Rattle.h264_lines.proofs.yuv_sink.YuvSinkFrameOut.frame.Goals as goal

pub returns-then-self-clause-refused : goal.returns-then-self-clause-refused
returns-then-self-clause-refused g c = rw c.fail.ensures.others (on-err-all c.fail.result (record { told = λ before h. frames-none h }))

pub returns-in-Ok-clause-ok : goal.returns-in-Ok-clause-ok
returns-in-Ok-clause-ok g c =
    let call = frame_call c.args._count c.args.frame.now c.args.rectangle in
    let broke = c.args.self.now.broke_off in
    record {
      told = λ before h. take-frame broke broke before call refl c.if-self.false (rw c.if-self.false c.in-Ok.ensures.ok)
          (rw c.if-self.false c.in-Ok.ensures.quiet) h;
    }

pub returns-in-Err-clause-ok : goal.returns-in-Err-clause-ok
returns-in-Err-clause-ok g c =
    let call = frame_call c.args._count c.args.frame.now c.args.rectangle in
    record { told = λ before h. take-frame c.args.self.now.broke_off true before call refl c.if-self.false c.in-Err.ensures.front c.in-Err.ensures.failed h }
