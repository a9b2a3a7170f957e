use Rattle.std.proofs.Common.{◌∷◌, [], ◌∙◌}
use Rattle.h264_lines.proofs.Known.{sends-more, sends-keeps, sends-is, front-is, some-all, some-front, some-longer, some-after, ok-of, err-of}
use Rattle.h264_report.proofs.judging.put_line.Goals as goal

pub returns-then-is_err-clause-text : goal.returns-then-is_err-clause-text
returns-then-is_err-clause-text g c =
    some-longer _ (some-front (front-is c.as_bytes.ensures.value (err-of c.send.result c.if-is_err.ensures.value c.send.ensures.front)))

pub returns-then-is_err-2-clause-text : goal.returns-then-is_err-2-clause-text
returns-then-is_err-2-clause-text g c =
    let first = sends-is c.as_bytes.ensures.value (ok-of c.send.result c.if-is_err.ensures.value c.send.ensures.ok) in
    some-after first (some-longer (10 ∷ []) (some-front
    (front-is c.as_bytes-2.ensures.value (err-of c.send-2.result c.if-is_err-2.ensures.value c.send-2.ensures.front))))

pub returns-then-is_err-3-clause-text : goal.returns-then-is_err-3-clause-text
returns-then-is_err-3-clause-text g c =
    let first = sends-is c.as_bytes.ensures.value (ok-of c.send.result c.if-is_err.ensures.value c.send.ensures.ok) in
    let second = sends-is c.as_bytes-2.ensures.value (ok-of c.send-2.result c.if-is_err-2.ensures.value c.send-2.ensures.ok) in
    some-after first (some-after second (some-front (err-of c.send-3.result c.if-is_err-3.ensures.value c.send-3.ensures.front)))

pub returns-in-Ok-clause-text : goal.returns-in-Ok-clause-text
returns-in-Ok-clause-text g c =
    let first = sends-is c.as_bytes.ensures.value (ok-of c.send.result c.if-is_err.ensures.value c.send.ensures.ok) in
    let second = sends-is c.as_bytes-2.ensures.value (ok-of c.send-2.result c.if-is_err-2.ensures.value c.send-2.ensures.ok) in
    let third = ok-of c.send-3.result c.if-is_err-3.ensures.value c.send-3.ensures.ok in
    sends-keeps (sends-more first (sends-more second third)) c.in-Ok.ensures.kept

pub returns-in-Ok-clause-quiet : goal.returns-in-Ok-clause-quiet
returns-in-Ok-clause-quiet g c e =
    let first = ok-of c.send.result c.if-is_err.ensures.value c.send.ensures.quiet in
    let second = ok-of c.send-2.result c.if-is_err-2.ensures.value c.send-2.ensures.quiet in
    let third = ok-of c.send-3.result c.if-is_err-3.ensures.value c.send-3.ensures.quiet in
    c.in-Ok.ensures.quiet ∙ third ∙ second ∙ first

pub returns-in-Err-clause-text : goal.returns-in-Err-clause-text
returns-in-Err-clause-text g c =
    let first = sends-is c.as_bytes.ensures.value (ok-of c.send.result c.if-is_err.ensures.value c.send.ensures.ok) in
    let second = sends-is c.as_bytes-2.ensures.value (ok-of c.send-2.result c.if-is_err-2.ensures.value c.send-2.ensures.ok) in
    let third = ok-of c.send-3.result c.if-is_err-3.ensures.value c.send-3.ensures.ok in
    some-all (sends-keeps (sends-more first (sends-more second third)) c.in-Err.ensures.kept)
