use Rattle.std.proofs.Common.{◌≡◌, ◌++◌, ap, ◌∙◌}
use Rattle.h264_lines.specs.Frames.{shown_bytes}
use Rattle.h264_lines.specs.Told.{ended}
use Rattle.h264_lines.specs.Y4m.{framed}
use Rattle.h264_lines.proofs.Known.{front-is, sends-is, ok-of}
use Rattle.h264_lines.proofs.y4m_sink.Y4mSink.put_first.Goals as goal

pub returns-in-Ok-clause-ok : goal.returns-in-Ok-clause-ok
returns-in-Ok-clause-ok g c =
    let same = c.as_str.ensures.value ∙ ok-of c.head_line.result c.if-is_err.ensures.value c.head_line.ensures in
    rw c.requires.whole (sends-is (ap (λ l. ended l ++ framed (shown_bytes c.args.frame.now c.args.rectangle)) same) c.in-Ok.ensures.ok)

pub returns-in-Ok-clause-blamed : goal.returns-in-Ok-clause-blamed
returns-in-Ok-clause-blamed g c = rw c.requires.whole c.in-Ok.ensures.quiet

pub returns-in-Err-clause-ok : goal.returns-in-Err-clause-ok
returns-in-Err-clause-ok g c =
    let same = c.as_str.ensures.value ∙ ok-of c.head_line.result c.if-is_err.ensures.value c.head_line.ensures in
    front-is (ap (λ l. ended l ++ framed (shown_bytes c.args.frame.now c.args.rectangle)) same) c.in-Err.ensures.front
