use Rattle.std.proofs.Common.{false}
use Rattle.std.proofs.lemmas.Result.{err_from_is_err_and, on_ok_weaker}
use Rattle.h264_base.proofs.Steps.{bind, bind_as, stop}
use Rattle.std.proofs.Common.{replicate}
use Rattle.h264_vectors.proofs.Parts.{starts}
use Rattle.h264_vectors.specs.Inter.{two_parts}
use Rattle.h264_vectors.specs.Derived.{none_yet}
use Rattle.h264_vectors.proofs.inter.read_two_parts.Goals as goal
use Rattle.h264_vectors.proofs.Partitions.{stay-then}

pub returns-in_err-i-clause-meets : goal.returns-in_err-i-clause-meets
unfolding two_parts
returns-in_err-i-clause-meets g c width picture k = let p = err_from_is_err_and c.from_residual.result c.from_residual.ensures.1 in
    rw (p.1, p.2) (stop _ (c.in_err-i.ensures.meets))

pub returns-in_err-j-clause-meets : goal.returns-in_err-j-clause-meets
unfolding two_parts
returns-in_err-j-clause-meets g c width picture k = let p = err_from_is_err_and c.from_residual-in_err-j.result c.from_residual-in_err-j.ensures.1 in
    rw (p.1, p.2) (bind _ (c.in_ok-i.ensures.meets) (stop _ (c.in_err-j.ensures.meets)))

pub returns-in_err-first-clause-meets : goal.returns-in_err-first-clause-meets
unfolding two_parts
returns-in_err-first-clause-meets g c width picture k = let p =
    err_from_is_err_and c.from_residual-in_err-first.result c.from_residual-in_err-first.ensures.1 in
    rw (p.1, p.2) (bind _ (c.in_ok-i.ensures.meets)
    (bind _ (c.in_ok-j.ensures.meets) (stop _ (c.in_err-first.ensures.meets width picture (replicate 16 false) none_yet k (starts _ c.requires.none)))))

pub returns-clause-meets : goal.returns-clause-meets
unfolding two_parts
returns-clause-meets g c width picture k =
    bind _ (c.in_ok-i.ensures.meets) (bind _ (c.in_ok-j.ensures.meets)
    (bind_as _ (c.in_ok-first.ensures.meets width picture (replicate 16 false) none_yet k (starts _ c.requires.none))
    (λ v2 e2. c.read_part-2.ensures.meets width picture _ v2 k e2)))

pub returns-clause-alike : goal.returns-clause-alike
returns-clause-alike g c = on_ok_weaker c.read_part-2.result (λ last. stay-then _ _ _ _ _ c.in_ok-first.ensures.alike last) c.read_part-2.ensures.alike
