use Rattle.h264_lines.specs.Frames.{shown_bytes}
use Rattle.h264_lines.specs.Y4m.{framed}
use Rattle.h264_lines.proofs.Known.{front-after, front-longer}
use Rattle.h264_lines.proofs.Sinks.{on-err, on-err-all}
use Rattle.h264_lines.proofs.y4m_sink.send_first.Goals as goal

pub returns-in-Ok-clause-front : goal.returns-in-Ok-clause-front
returns-in-Ok-clause-front g c = on-err c.send_framed.result (λ a s. front-after a s) (on-err-all c.send_framed.result c.in-Ok.ensures.ok)
    c.send_framed.ensures.front

pub returns-in-Err-clause-front : goal.returns-in-Err-clause-front
returns-in-Err-clause-front g c = front-longer (framed (shown_bytes c.args.frame.now c.args.rectangle)) c.in-Err.ensures.front
