use Rattle.std.proofs.Common.{◌≡◌, ◌++◌, false, ap, sym, ◌∙◌}
use Rattle.std.proofs.lemmas.Bool.{true≢false}
use Rattle.h264_pages.specs.Pages.{is_cut}
use Rattle.h264_lines.specs.Told.{ended}
use Rattle.h264_command.specs.Texts.{Short}
use Rattle.h264_words.specs.Words.{mode_of}
use Rattle.h264_command.proofs.telling.put_found.Goals as goal
use Rattle.h264_command.proofs.telling.put_found.Goals.{then-not-job, else-not-job}

pub returns-then-is_short-clause-text : goal.returns-then-is_short-clause-text
returns-then-is_short-clause-text g c =
    let prefix = c.args.job.now.prefix.now in
    let told : c.args.job.now.options.quiet ≡ false = elim c.if-not-job.branch [
      | then-not-job w ↦ w.if-not-job.true
      | else-not-job w ↦ absurd (true≢false (sym c.if-is_short.true ∙ c.is_short.ensures ∙ ap (λ l. is_cut l) w.lines-is ∙ c.new-lines.ensures.whole))
    ] in
    let none = c.short_of-stop.ensures.no_verdict in (
      prefix ++ ended c.unjudged_line.result.now,
      c.put_line.ensures.text,
      Short told none prefix (ap (λ line. prefix ++ ended line) (c.unjudged_line.ensures (mode_of c.args.job.now.task) none)),
    )
