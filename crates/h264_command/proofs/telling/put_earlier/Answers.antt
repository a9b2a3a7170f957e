use Rattle.std.proofs.Common.{◌≡◌, string_bytes, subst, sym}
use Rattle.h264_command.specs.Endings.{AddsSome, AreEarlierLines, IsEarlierIn, IsOfFurther, IsOfInfo}
use Rattle.h264_command.specs.declared.strictly.StrictForm.TheVariants.{Objects}
use Rattle.h264_command.proofs.Endings.{both-added, some-added}
use Rattle.h264_command.proofs.telling.put_earlier.Goals as goal

pub returns-then-job : goal.returns-then-job
returns-then-job c =
    let page = c.args.page.now in
    let new = c.put_further.new.page in
    let job = c.args.job.now in
    let found = c.args.found.now in
    subst (λ json. AddsSome page new (IsEarlierIn json job found)) (sym c.if-job.true) (both-added page c.put_info_before.new.page new (IsOfInfo job found)
    (IsOfFurther (Objects job.file) found.strict) c.put_info_before.ensures c.put_further.ensures)

pub returns-else-job : goal.returns-else-job
returns-else-job c =
    let page = c.args.page.now in
    let new = c.put_earlier_lines.new.page in
    let job = c.args.job.now in
    let found = c.args.found.now in
    let first = some-added page c.put.new.self c.as_str.result.now (λ text. text ≡ string_bytes found.before) c.put.ensures c.as_str.ensures.value in
    subst (λ json. AddsSome page new (IsEarlierIn json job found)) (sym c.if-job.false) (both-added page c.put.new.self new
    (λ text. text ≡ string_bytes found.before) (AreEarlierLines job found) first c.put_earlier_lines.ensures)
