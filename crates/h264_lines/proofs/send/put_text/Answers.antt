use Rattle.std.proofs.Common.{◌∙◌}
use Rattle.h264_lines.proofs.Known.{sends-keeps, sends-is, front-is, some-all, some-front, ok-of, err-of}
use Rattle.h264_lines.proofs.send.put_text.Goals as goal

pub returns-then-is_err-clause-text : goal.returns-then-is_err-clause-text
returns-then-is_err-clause-text g c = some-front (front-is c.as_bytes.ensures.value (err-of c.send.result c.if-is_err.ensures.value c.send.ensures.front))

pub returns-in-Ok-clause-text : goal.returns-in-Ok-clause-text
returns-in-Ok-clause-text g c = sends-keeps (sends-is c.as_bytes.ensures.value (ok-of c.send.result c.if-is_err.ensures.value c.send.ensures.ok))
    c.in-Ok.ensures.kept

pub returns-in-Ok-clause-quiet : goal.returns-in-Ok-clause-quiet
returns-in-Ok-clause-quiet g c e = c.in-Ok.ensures.quiet ∙ ok-of c.send.result c.if-is_err.ensures.value c.send.ensures.quiet

pub returns-in-Err-clause-text : goal.returns-in-Err-clause-text
returns-in-Err-clause-text g c = some-all
    (sends-keeps (sends-is c.as_bytes.ensures.value (ok-of c.send.result c.if-is_err.ensures.value c.send.ensures.ok)) c.in-Err.ensures.kept)
