use Rattle.std.proofs.Common.{◌++◌, sym, subst, OnOk}
use Rattle.std.proofs.KnownBytes.{Consumes-trans}
use Rattle.h264_lines.proofs.Sinks.{ok-map}
use Rattle.h264_compare.specs.Given.{IsLine}
use Rattle.h264_compare.proofs.Matching.{frame-line}
use Rattle.h264_compare.proofs.given.pass_line.Goals as goal

pub returns-in-Ok-clause-read : goal.returns-in-Ok-clause-read
returns-in-Ok-clause-read g c =
    let word = c.in-Ok.ensures.read in
    let rest = c.pass_rest.ensures.read in (
      word.0 ++ rest.0,
      Consumes-trans _ _ _ _ _ word.1 rest.1,
      subst (λ layout. OnOk c.pass_rest.result (IsLine layout (word.0 ++ rest.0))) (sym c.in-Y4m.is)
          (ok-map c.pass_rest.result (frame-line word.0 rest.0 word.2) rest.2),
    )
