use Rattle.std.proofs.Common.{drop, sym, ap, ◌∙◌}
use Rattle.h264_strict.specs.SeiMessages.{is_trailing}
use Rattle.h264_strict.proofs.Reading.{filler-is}
use Rattle.h264_strict.proofs.strict_bytes.is_filler.Goals as goal

pub returns : goal.returns
returns c =
    c.is_trailing.ensures
    ∙ ap is_trailing (c.after.ensures ∙ ap (λ n. drop n c.args.bytes.now) c.ff_bytes.ensures.value)
    ∙ sym (filler-is c.args.bytes.now)
