use Rattle.std.proofs.Common.{sym, ◌∙◌}
use Rattle.h264_command.proofs.listing.list_file.Goals as goal

pub returns-then-not-job-clause-text : goal.returns-then-not-job-clause-text
returns-then-not-job-clause-text g c = rw c.if-not-job.true c.list_in_form.ensures.text

pub returns-in-Ok-clause-text : goal.returns-in-Ok-clause-text
returns-in-Ok-clause-text g c =
    let head = c.as_str.ensures.value ∙ c.in-Ok.ensures in
    rw (c.if-not-job.false, sym head) c.list_in_form-in-Ok.ensures.text
