use Rattle.std.proofs.Common.{refl}
use Rattle.std.proofs.lemmas.Result.{err_from_is_err_and}
use Rattle.h264_base.proofs.OneAnswer.{answers}
use Rattle.h264_base.proofs.Steps.{bind, bind_as, stop, done}
use Rattle.h264_mbsyntax.specs.Macroblock.{macroblock}
use Rattle.h264_mbsyntax.proofs.Possible.{met-read}
use Rattle.h264_mbsyntax.proofs.macroblock.read_macroblock.Goals as goal

pub returns-in_err-mb_type-clause-meets : goal.returns-in_err-mb_type-clause-meets
unfolding macroblock
returns-in_err-mb_type-clause-meets g c width picture k q = let p = err_from_is_err_and c.from_residual.result c.from_residual.ensures.1 in
    rw (p.1, p.2) (stop _ c.in_err-mb_type.ensures.meets)

pub returns-in_err-mb_type-clause-answers : goal.returns-in_err-mb_type-clause-answers
returns-in_err-mb_type-clause-answers g c width picture k q = answers (returns-in_err-mb_type-clause-meets g c width picture k q)

pub returns-in_err-read_by_type-clause-meets : goal.returns-in_err-read_by_type-clause-meets
unfolding macroblock
returns-in_err-read_by_type-clause-meets g c width picture k q = let p =
    err_from_is_err_and c.from_residual-in_err-read_by_type.result c.from_residual-in_err-read_by_type.ensures.1 in
    rw (p.1, p.2) (bind _ c.in_ok-mb_type.ensures.meets (stop _ (c.in_err-read_by_type.ensures.meets width picture k q)))

pub returns-in_err-read_by_type-clause-answers : goal.returns-in_err-read_by_type-clause-answers
returns-in_err-read_by_type-clause-answers g c width picture k q = answers (returns-in_err-read_by_type-clause-meets g c width picture k q)

pub returns-clause-meets : goal.returns-clause-meets
unfolding macroblock
returns-clause-meets g c width picture k q =
    met-read width c.args.slice.now picture _
    (bind _ c.in_ok-mb_type.ensures.meets (bind_as _ (c.in_ok-read_by_type.ensures.meets width picture k q) (λ m h. done _ _ _ _ _ _ _ (refl, h))))

pub returns-clause-answers : goal.returns-clause-answers
returns-clause-answers g c width picture k q = answers (returns-clause-meets g c width picture k q)
