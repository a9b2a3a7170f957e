use Rattle.std.proofs.Common.{sym, ◌∙◌}
use Rattle.h264_deblock.specs.Level.{names}
use Rattle.h264_deblock.proofs.CodedEdges.{border-at-0, border-none, border-some, border-skip}
use Rattle.h264_deblock.proofs.skipped.border_to.Goals as goal

pub returns-then-place-eq0-clause-here : goal.returns-then-place-eq0-clause-here
returns-then-place-eq0-clause-here c v p q i s n = border-at-0 c.args.filter.now v p q (n c.if-place-eq0.true)

pub returns-in-None-clause-here : goal.returns-in-None-clause-here
returns-in-None-clause-here c v p q i s n = border-none c.args.filter.now v c.args.beside.now p q c.in-None.is i

pub returns-then-is_filtered-clause-here : goal.returns-then-is_filtered-clause-here
returns-then-is_filtered-clause-here c v p q i s n =
    border-some c.args.filter.now v c.args.beside.now c.in-Some.edge c.args.own.now.slice p q (names c.border_strengths.result) c.in-Some.is i s.slice
    (λ m j. c.border_strengths.ensures.here v m q j s) (sym c.is_filtered.ensures ∙ c.if-is_filtered.true)

pub returns-else-is_filtered-clause-here : goal.returns-else-is_filtered-clause-here
returns-else-is_filtered-clause-here c v p q i s n =
    border-skip c.args.filter.now v c.args.beside.now c.in-Some.edge c.args.own.now.slice p q c.in-Some.is i s.slice
    (sym c.is_filtered.ensures ∙ c.if-is_filtered.false)
