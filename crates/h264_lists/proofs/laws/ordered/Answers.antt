use Rattle.h264_lists.proofs.Sorted.{in_order-moves, in_order-sorted}
use Rattle.h264_lists.proofs.laws.ordered.Goals as goal

pub returns-clause-frames : goal.returns-clause-frames
returns-clause-frames c = in_order-moves

pub returns-clause-order : goal.returns-clause-order
returns-clause-order c = in_order-sorted
