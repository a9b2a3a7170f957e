use Rattle.std.proofs.lemmas.Bool.{false≢true}
use Rattle.h264_command.proofs.ListsFound.{refused-by}
use Rattle.h264_command.proofs.lists.is_refused.Goals as goal

pub returns-clause-refused : goal.returns-clause-refused
returns-clause-refused c said =
    refused-by _ _ c.in-Err.ensures.refused c.in-Err.ensures.untaken (λ e. false≢true (rw (c.kind.ensures, e) at c.if-eq.ensures))
