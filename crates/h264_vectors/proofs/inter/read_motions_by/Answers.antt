use Rattle.std.proofs.Common.{eq-eqb, refl}
use Rattle.std.proofs.lemmas.Result.{on_ok_weaker}
use Rattle.h264_vectors.proofs.Partitions.{moves16x8, moves8x16, of-four}
use Rattle.h264_plane.specs.Blocks.{column_of, row_of}
use Rattle.h264_vectors.specs.Agrees.{places_with}
use Rattle.h264_vectors.specs.Inter.{motions_by}
use Rattle.h264_vectors.proofs.inter.read_motions_by.Goals as goal
use Rattle.h264_base.proofs.Plain.{differs, on-ok}

pub returns-then-kind-eq0-clause-meets : goal.returns-then-kind-eq0-clause-meets
unfolding motions_by
returns-then-kind-eq0-clause-meets g c width picture k =
    rw (eq-eqb c.args.kind 0 c.if-kind-eq0.true) (rw c.is_inferred-inferred.ensures.meets at (c.read_one_part.ensures.meets width picture k))

pub returns-then-kind-eq1-clause-meets : goal.returns-then-kind-eq1-clause-meets
unfolding motions_by places_with column_of row_of
returns-then-kind-eq1-clause-meets g c width picture k =
    rw (differs c.args.kind 0 c.if-kind-eq0.false, eq-eqb c.args.kind 1 c.if-kind-eq1.true)
    (rw c.is_inferred-inferred.ensures.meets at (c.read_two_parts.ensures.meets width picture k))

pub returns-then-kind-eq2-clause-meets : goal.returns-then-kind-eq2-clause-meets
unfolding motions_by places_with column_of row_of
returns-then-kind-eq2-clause-meets g c width picture k =
    rw (differs c.args.kind 0 c.if-kind-eq0.false, differs c.args.kind 1 c.if-kind-eq1.false, eq-eqb c.args.kind 2 c.if-kind-eq2.true)
    (rw c.is_inferred-inferred.ensures.meets at (c.read_two_parts-then-kind-eq2.ensures.meets width picture k))

pub returns-clause-meets : goal.returns-clause-meets
unfolding motions_by
returns-clause-meets g c width picture k =
    rw (differs c.args.kind 0 c.if-kind-eq0.false, differs c.args.kind 1 c.if-kind-eq1.false, differs c.args.kind 2 c.if-kind-eq2.false)
    (rw c.is_inferred-inferred.ensures.meets at (c.read_split.ensures.meets width picture k))

pub returns-then-kind-eq0-clause-partition : goal.returns-then-kind-eq0-clause-partition
returns-then-kind-eq0-clause-partition g c = on-ok c.read_one_part.result (rw c.if-kind-eq0.true refl)

pub returns-then-kind-eq1-clause-partition : goal.returns-then-kind-eq1-clause-partition
returns-then-kind-eq1-clause-partition g c = on-ok c.read_two_parts.result (rw c.if-kind-eq1.true refl)

pub returns-then-kind-eq1-clause-alike : goal.returns-then-kind-eq1-clause-alike
returns-then-kind-eq1-clause-alike g c = on_ok_weaker c.read_two_parts.result (moves16x8 _ _ c.requires.none) c.read_two_parts.ensures.alike

pub returns-then-kind-eq2-clause-partition : goal.returns-then-kind-eq2-clause-partition
returns-then-kind-eq2-clause-partition g c = on-ok c.read_two_parts-then-kind-eq2.result (rw c.if-kind-eq2.true refl)

pub returns-then-kind-eq2-clause-alike : goal.returns-then-kind-eq2-clause-alike
returns-then-kind-eq2-clause-alike g c =
    on_ok_weaker c.read_two_parts-then-kind-eq2.result (moves8x16 _ _ c.requires.none) c.read_two_parts-then-kind-eq2.ensures.alike

pub returns-clause-partition : goal.returns-clause-partition
returns-clause-partition g c = on_ok_weaker c.read_split.result (of-four c.args.kind _ c.if-kind-eq0.false c.if-kind-eq1.false c.if-kind-eq2.false)
    c.read_split.ensures.partition
