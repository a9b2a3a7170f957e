use Rattle.std.proofs.Common.{refl}
use Rattle.h264_base.proofs.Steps.{done}
use Rattle.h264_vectors.specs.Inter.{ref_index}
use Rattle.h264_vectors.proofs.inter.read_ref_index.Goals as goal

pub returns-then-inferred-clause-meets : goal.returns-then-inferred-clause-meets
unfolding ref_index
returns-then-inferred-clause-meets g c = rw c.if-inferred.true (done _ _ _ _ _ _ _ refl)

pub returns-clause-meets : goal.returns-clause-meets
unfolding ref_index
returns-clause-meets g c = rw c.if-inferred.false c.read_ref_idx.ensures.meets
