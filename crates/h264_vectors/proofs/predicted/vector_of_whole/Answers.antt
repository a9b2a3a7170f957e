use Rattle.std.proofs.Common.{refl}
use Rattle.h264_vectors.specs.Vectors.{predicted_vector}
use Rattle.h264_vectors.proofs.predicted.vector_of_whole.Goals as goal

pub returns : goal.returns
unfolding predicted_vector
returns c width picture k = rw (
  c.by_direction.ensures,
  c.instead-beyond.ensures,
  c.neighbour-a.ensures width picture k,
  c.neighbour-b.ensures width picture k,
  c.neighbour-c.ensures width picture k,
  c.neighbour-d.ensures width picture k,
) refl
