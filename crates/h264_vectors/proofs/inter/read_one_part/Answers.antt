use Rattle.std.proofs.Common.{false}
use Rattle.std.proofs.lemmas.Result.{err_from_is_err_and, on_ok_weaker}
use Rattle.h264_base.proofs.Steps.{bind, stop}
use Rattle.std.proofs.Common.{replicate}
use Rattle.h264_vectors.proofs.Parts.{starts}
use Rattle.h264_vectors.proofs.Partitions.{moves16x16}
use Rattle.h264_plane.specs.Blocks.{column_of, row_of}
use Rattle.h264_vectors.specs.Agrees.{places_with}
use Rattle.h264_vectors.specs.Inter.{one_part}
use Rattle.h264_vectors.specs.Derived.{none_yet}
use Rattle.h264_vectors.proofs.inter.read_one_part.Goals as goal

pub returns-in_err-ref_idx-clause-meets : goal.returns-in_err-ref_idx-clause-meets
unfolding one_part places_with column_of row_of
returns-in_err-ref_idx-clause-meets g c width picture k = let p = err_from_is_err_and c.from_residual.result c.from_residual.ensures.1 in
    rw (p.1, p.2) (stop _ (c.in_err-ref_idx.ensures.meets))

pub returns-clause-meets : goal.returns-clause-meets
unfolding one_part places_with column_of row_of
returns-clause-meets g c width picture k =
    bind _ (c.in_ok-ref_idx.ensures.meets) (c.read_part.ensures.meets width picture (replicate 16 false) none_yet k (starts _ c.requires.none))

pub returns-clause-alike : goal.returns-clause-alike
returns-clause-alike g c = on_ok_weaker c.read_part.result (moves16x16 _ _ c.requires.none) c.read_part.ensures.alike
