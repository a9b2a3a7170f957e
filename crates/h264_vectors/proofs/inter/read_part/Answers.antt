use Rattle.std.proofs.Common.{rules}
use Rattle.std.proofs.lemmas.Result.{err_from_is_err_and}
use Rattle.h264_base.proofs.Steps.{bind, stop, done}
use Rattle.std.proofs.lemmas.Int.{to_z-of_z}
use Rattle.std.specs.Int.{w32}
use mir.Val.{SFits}
use Rattle.h264_vectors.specs.Inter.{part_motion}
use Rattle.h264_vectors.proofs.inter.read_part.Goals as goal

pub returns-in_err-across-clause-meets : goal.returns-in_err-across-clause-meets
unfolding part_motion
returns-in_err-across-clause-meets g c width picture places d k a = let p = err_from_is_err_and c.from_residual.result c.from_residual.ensures.1 in
    rw (p.1, p.2) (stop _ (c.in_err-across.ensures.meets))

pub returns-in_err-down-clause-meets : goal.returns-in_err-down-clause-meets
unfolding part_motion
returns-in_err-down-clause-meets g c width picture places d k a = let p =
    err_from_is_err_and c.from_residual-in_err-down.result c.from_residual-in_err-down.ensures.1 in
    rw (p.1, p.2) (bind _ (c.in_ok-across.ensures.meets) (stop _ (c.in_err-down.ensures.meets)))

pub returns-clause-meets : goal.returns-clause-meets
unfolding part_motion
returns-clause-meets g c width picture places d k a =
    bind _ (c.in_ok-across.ensures.meets) (bind _ (c.in_ok-down.ensures.meets)
    (done _ _ _ _ _ _ _ (let f : SFits w32 c.in_ok-across.across.value = search rules in let e : SFits w32 c.in_ok-down.down.value = search rules in
    simp to_z-of_z at (c.derive.ensures.agrees width picture places d k a))))
