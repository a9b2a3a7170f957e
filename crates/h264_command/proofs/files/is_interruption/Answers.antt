use Rattle.std.proofs.Common.{sym, ◌∙◌}
use Rattle.std.proofs.lemmas.Bool.{true≢false, false≢true}
use Rattle.h264_command.proofs.files.is_interruption.Goals as goal

pub returns-in-Interrupted-clause-yes : goal.returns-in-Interrupted-clause-yes
returns-in-Interrupted-clause-yes c = λ _. sym c.kind.ensures ∙ c.in-Interrupted.is

pub returns-in-Interrupted-clause-no : goal.returns-in-Interrupted-clause-no
returns-in-Interrupted-clause-no c = λ e. absurd (true≢false e)

pub returns-in_default : goal.returns-in_default
returns-in_default c = record { yes = λ e. absurd (false≢true e); no = λ _ e. c.in_default.not-Interrupted (c.kind.ensures ∙ e) }
