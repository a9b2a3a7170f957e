use Rattle.std.proofs.Common.{arith, rules}
use Rattle.h264_cabac.proofs.Initials.{one-more, pair-below}
use Rattle.h264_cabac.proofs.initial.initial_contexts.Goals as goal

pub loop-index-init : goal.loop-index-init
loop-index-init c = record { count = search rules; states = λ k h. absurd (omega arith) }

pub loop-index-preserved : goal.loop-index-preserved
loop-index-preserved c =
    one-more c.args.table c.args.slice_qp c.loop-index.index c.loop-index.contexts c.initial_context.result c.loop-index.invariant c.initial_context.ensures
    (search rules)

pub returns-clause-states : goal.returns-clause-states
returns-clause-states c = record { states = λ index pair e. c.loop-index.invariant.states index (let b = pair-below _ index pair e in search rules) pair e }

pub returns-clause-count : goal.returns-clause-count
returns-clause-count c = c.loop-index.invariant.count
