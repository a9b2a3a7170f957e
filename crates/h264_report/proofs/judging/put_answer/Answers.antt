use Rattle.std.proofs.Common.{◌≡◌, Err, ap, ◌∙◌}
use Rattle.h264_base.specs.declared.stop.Stop.{Stop}
use Rattle.h264_base.specs.declared.stop.Stop.TheVariants.{Write}
use Rattle.h264_report.proofs.judging.put_answer.Goals as goal

pub returns-in-Err-Write-clause-text : goal.returns-in-Err-Write-clause-text
returns-in-Err-Write-clause-text g c =
    let stop = rw c.in-Err-Write.is at c.in-Err-Write.field-0-is in
    let is : c.args.answer ≡ Err Write = c.in-Err-Write.is ∙ ap (λ (s : Stop). Err s) stop in
    rw is c.put_line-in-Err-Write.ensures.text
