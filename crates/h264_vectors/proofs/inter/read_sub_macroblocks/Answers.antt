use Rattle.std.proofs.Common.{true, false}
use Rattle.std.proofs.lemmas.Result.{err_from_is_err_and, on_ok_weaker}
use Rattle.h264_base.proofs.Steps.{bind_as, stop}
use Rattle.std.proofs.Common.{replicate, slice_index, ◌++◌}
use Rattle.h264_vectors.proofs.Parts.{starts}
use Rattle.h264_vectors.specs.Inter.{quarters}
use Rattle.h264_vectors.specs.Derived.{none_yet}
use Rattle.h264_vectors.proofs.Parts.{quarter0, quarter1, quarter2, quarter3}
use Rattle.h264_vectors.proofs.inter.read_sub_macroblocks.Goals as goal
use Rattle.h264_vectors.proofs.Partitions.{moves8x8}

pub returns-in_err-a-clause-meets : goal.returns-in_err-a-clause-meets
unfolding quarters
returns-in_err-a-clause-meets g c width picture k = let p = err_from_is_err_and c.from_residual.result c.from_residual.ensures.1 in
    rw (p.1, p.2) (stop _ (rw c.new-first.ensures at (c.in_err-a.ensures.meets width picture (replicate 16 false) none_yet k (starts _ c.requires.none))))

pub returns-in_err-b-clause-meets : goal.returns-in_err-b-clause-meets
unfolding quarters
returns-in_err-b-clause-meets g c width picture k = let p = err_from_is_err_and c.from_residual-in_err-b.result c.from_residual-in_err-b.ensures.1 in
    rw (p.1, p.2) (bind_as _ (rw c.new-first.ensures at (c.in_ok-a.ensures.meets width picture (replicate 16 false) none_yet k (starts _ c.requires.none)))
    (λ v0 e0. stop _ (rw c.new-second.ensures at
    (c.in_err-b.ensures.meets width picture (replicate 4 true ++ replicate 12 false) v0 k (rw (quarter0 (slice_index c.args.types 0)) at e0)))))

pub returns-in_err-c-clause-meets : goal.returns-in_err-c-clause-meets
unfolding quarters
returns-in_err-c-clause-meets g c width picture k = let p = err_from_is_err_and c.from_residual-in_err-c.result c.from_residual-in_err-c.ensures.1 in
    rw (p.1, p.2) (bind_as _ (rw c.new-first.ensures at (c.in_ok-a.ensures.meets width picture (replicate 16 false) none_yet k (starts _ c.requires.none)))
    (λ v0 e0. bind_as _ (rw c.new-second.ensures at
    (c.in_ok-b.ensures.meets width picture (replicate 4 true ++ replicate 12 false) v0 k (rw (quarter0 (slice_index c.args.types 0)) at e0)))
    (λ v1 e1. stop _ (rw c.new-third.ensures at
    (c.in_err-c.ensures.meets width picture (replicate 8 true ++ replicate 8 false) v1 k (rw (quarter1 (slice_index c.args.types 1)) at e1))))))

pub returns-clause-meets : goal.returns-clause-meets
unfolding quarters
returns-clause-meets g c width picture k =
    bind_as _ (rw c.new-first.ensures at (c.in_ok-a.ensures.meets width picture (replicate 16 false) none_yet k (starts _ c.requires.none)))
    (λ v0 e0. bind_as _ (rw c.new-second.ensures at
    (c.in_ok-b.ensures.meets width picture (replicate 4 true ++ replicate 12 false) v0 k (rw (quarter0 (slice_index c.args.types 0)) at e0)))
    (λ v1 e1. bind_as _ (rw c.new-third.ensures at
    (c.in_ok-c.ensures.meets width picture (replicate 8 true ++ replicate 8 false) v1 k (rw (quarter1 (slice_index c.args.types 1)) at e1)))
    (λ v2 e2. rw (c.new-fourth.ensures, quarter3 (slice_index c.args.types 3)) at
    (c.read_sub_macroblock-4.ensures.meets width picture (replicate 12 true ++ replicate 4 false) v2 k (rw (quarter2 (slice_index c.args.types 2)) at e2)))))

pub returns-clause-alike : goal.returns-clause-alike
returns-clause-alike g c = on_ok_weaker c.read_sub_macroblock-4.result
    (λ last. moves8x8 (slice_index c.args.types 0) (slice_index c.args.types 1) (slice_index c.args.types 2) (slice_index c.args.types 3) _ _ _ _ _
    c.requires.none
    (rw c.new-first.ensures at c.in_ok-a.ensures.alike) (rw c.new-second.ensures at c.in_ok-b.ensures.alike)
    (rw c.new-third.ensures at c.in_ok-c.ensures.alike) (rw c.new-fourth.ensures at last)) c.read_sub_macroblock-4.ensures.alike
