use Rattle.std.proofs.Common.{sym, ◌∙◌}
use Rattle.std.specs.Cmp.Lexicographic.{other_text}
use Rattle.h264_pages.proofs.Entries.{one_more_label}
use Rattle.h264_pages.proofs.rules.find_labelled.Goals as goal

pub loop-entry-preserved : goal.loop-entry-preserved
loop-entry-preserved c = one_more_label _ _ c.loop-entry.entry-index _ c.loop-entry.invariant
    (λ h. other_text _ _ (sym (sym c.eq.ensures ∙ c.if-eq.false)) (c.label.ensures ∙ h))
