use Rattle.h264_cabac.proofs.Initials.{AreInitial}
use Rattle.h264_cabac.proofs.initial.initial_contexts.Given as goal

abbrev pub invariant-loop-index : goal.invariant-loop-index
invariant-loop-index l = AreInitial l.table l.slice_qp l.index l.contexts
