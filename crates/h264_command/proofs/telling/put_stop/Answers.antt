use Rattle.std.proofs.Common.{◌++◌, ap}
use Rattle.h264_lines.specs.Told.{ended}
use Rattle.h264_command.specs.Texts.{Short}
use Rattle.h264_words.specs.Words.{mode_of}
use Rattle.h264_command.proofs.telling.put_stop.Goals as goal

pub returns-clause-text : goal.returns-clause-text
returns-clause-text g c =
    let prefix = c.args.job.now.prefix.now in (
      prefix ++ ended c.unjudged_line.result.now,
      c.put_line.ensures.text,
      λ none. Short c.if-job.false none prefix (ap (λ line. prefix ++ ended line) (c.unjudged_line.ensures (mode_of c.args.job.now.task) none)),
    )
