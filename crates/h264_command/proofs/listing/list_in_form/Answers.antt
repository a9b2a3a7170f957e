use Rattle.std.proofs.Common.{sym, ◌∙◌}
use Rattle.h264_report.proofs.Accounts.{of-map}
use Rattle.h264_command.proofs.Texts.{takes-all}
use Rattle.h264_command.proofs.listing.list_in_form.Goals as goal

pub returns-clause-text : goal.returns-clause-text
returns-clause-text g c = of-map _ _ _ (λ bytes t. takes-all _ _ _ _ _ _ _ (sym c.chooses.ensures ∙ c.if-chooses.false) t) c.list_all.ensures.text
