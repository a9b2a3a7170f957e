use Rattle.std.proofs.Common.{rules, sym}
use Rattle.h264_lines.specs.Objects.{opening_of}
use Rattle.h264_lines.specs.Told.{lines_of}
use Rattle.h264_verify.specs.Units.{terms_of}
use Rattle.h264_command.specs.Files.{left_of}
use Rattle.h264_command.specs.Texts.{IsMade, listing_of}
use Rattle.h264_words.specs.Words.{mode_of}
use Rattle.h264_command.proofs.Texts.{carried}
use Rattle.h264_command.proofs.listing.list_all.Goals as goal

pub returns-clause-text : goal.returns-clause-text
returns-clause-text g c =
    let same = sym c.list_by_pen-answer.ensures.same_reference in
    rw c.found_with.ensures.answer (carried g.W.Device.contents g.W.Device.has_failed g.W.Device.holds_back (g.W.Device.contents c.args.out.now)
    (left_of g.F.Read.remaining c.args.file.now.reader)
    (λ bytes. IsMade (lines_of (opening_of c.args.form) (listing_of c.args.job.now.task c.args.job.now.options.quiet) 0)
    (terms_of (mode_of c.args.job.now.task) c.args.job.now.options.target) bytes c.list_by_pen-answer.result.1) c.list_by_pen-answer.result.0.out.now _
    c.list_by_pen-answer.ensures.text (search rules))
