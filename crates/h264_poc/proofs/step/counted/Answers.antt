use Rattle.h264_poc.proofs.step.counted.Goals as goal

pub returns-in-Cycle-clause-prev : goal.returns-in-Cycle-clause-prev
returns-in-Cycle-clause-prev c = rw c.in-Cycle.is c.leaving_nothing.ensures.prev
