use Rattle.std.proofs.Common.{inl, refl, Err}
use Rattle.h264_base.specs.declared.stop.Stop.TheVariants.{Memory}
use Rattle.h264_lines.proofs.Known.{keeps-same}
use Rattle.h264_command.specs.Further.{IsNoVerdict}
use Rattle.h264_command.proofs.Texts.{end-renamed, unjudged-text}
use Rattle.h264_command.proofs.more.do_named.Goals as goal

pub returns-in_default-clause-text : goal.returns-in_default-clause-text
returns-in_default-clause-text g c =
    let none : IsNoVerdict (Err Memory) = inl refl in
    rw (c.put_no_verdict.ensures.answer, c.if-job.false)
    (unjudged-text _ _ _ none (keeps-same _) (end-renamed c.args.job.now.prefix.now _ none (rw c.if-job.false at (c.put_no_verdict.ensures.text none))))
