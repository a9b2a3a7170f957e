use Rattle.std.proofs.Common.{false, rules, sym}
use Rattle.h264_verify.specs.Units.{terms_of}
use Rattle.h264_command.specs.Files.{left_of}
use Rattle.h264_command.specs.Texts.{IsDecoded}
use Rattle.h264_words.specs.Words.{mode_of}
use Rattle.h264_command.proofs.Texts.{carried}
use Rattle.h264_command.proofs.decoding.decode_bare.Goals as goal

pub returns-clause-text : goal.returns-clause-text
returns-clause-text g c =
    let same = sym c.decode_samples-answer.ensures.same_reference in
    rw c.found_with.ensures.answer (carried g.W.Device.contents g.W.Device.has_failed g.W.Device.holds_back (g.W.Device.contents c.args.out.now)
    (left_of g.F.Read.remaining c.args.file.now.reader)
    (λ bytes. IsDecoded false (terms_of (mode_of c.args.job.now.task) c.args.job.now.options.target) bytes c.decode_samples-answer.result.1)
    c.decode_samples-answer.result.0.out.now _ c.decode_samples-answer.ensures.text (search rules))
