use Rattle.std.proofs.Common.{refl, sym, ◌∙◌}
use Rattle.h264_vectors.specs.Vectors.{skip_vector}
use Rattle.h264_vectors.proofs.predicted.skip_vector.Goals as goal

pub returns-then-keeps_still : goal.returns-then-keeps_still
unfolding skip_vector
returns-then-keeps_still c width picture k =
    let a = sym c.keeps_still.ensures ∙ c.if-keeps_still.true in
    let a' = rw (c.neighbour-a.ensures width picture k) at a in
    rw a' refl

pub returns-then-keeps_still-2 : goal.returns-then-keeps_still-2
unfolding skip_vector
returns-then-keeps_still-2 c width picture k =
    let a = rw (c.neighbour-a.ensures width picture k) at (sym c.keeps_still.ensures ∙ c.if-keeps_still.false) in
    let b = rw (c.neighbour-b.ensures width picture k) at (sym c.keeps_still-2.ensures ∙ c.if-keeps_still-2.true) in
    rw (a, b) refl

pub returns : goal.returns
unfolding skip_vector
returns c width picture k =
    let a = rw (c.neighbour-a.ensures width picture k) at (sym c.keeps_still.ensures ∙ c.if-keeps_still.false) in
    let b = rw (c.neighbour-b.ensures width picture k) at (sym c.keeps_still-2.ensures ∙ c.if-keeps_still-2.false) in
    rw (a, b) (c.vector_of_whole.ensures width picture k)
