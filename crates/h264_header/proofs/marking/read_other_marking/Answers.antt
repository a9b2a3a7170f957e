use Rattle.std.proofs.Common.{refl}
use Rattle.std.proofs.lemmas.Result.{err_from_is_err_and}
use Rattle.h264_base.specs.Grammar.{◌>>=◌}
use Rattle.h264_base.proofs.Steps.{bind, stop, done, seen-last}
use Rattle.h264_bits.specs.declared.element.Found.{Found}
use Rattle.h264_header.specs.declared.header.Marking.{Marking}
use Rattle.h264_header.specs.Marking.{marking_mode, other_marking}
use Rattle.h264_header.proofs.marking.read_other_marking.Goals as goal
use Rattle.h264_base.proofs.Plain.{digit-is}

pub returns-in_err-adaptive : goal.returns-in_err-adaptive
unfolding other_marking
returns-in_err-adaptive g c = let p = err_from_is_err_and c.from_residual.result c.from_residual.ensures.1 in
    rw (p.1, p.2) (stop _ c.in_err-adaptive.ensures.meets)

pub returns-then-adaptive : goal.returns-then-adaptive
unfolding other_marking
returns-then-adaptive g c = bind _ c.in_ok-adaptive.ensures.meets
    (rw (digit-is c.in_ok-adaptive.adaptive.value, c.if-adaptive.true)
    (seen-last (λ (m : Marking). let f : Found Marking = record { bit = c.in_ok-adaptive.adaptive.bit; value = m } in f) _ (λ _ m e. e)
    c.read_adaptive.ensures))

pub returns : goal.returns
unfolding other_marking marking_mode ◌>>=◌
returns g c = bind _ c.in_ok-adaptive.ensures.meets (rw (digit-is c.in_ok-adaptive.adaptive.value, c.if-adaptive.false) (done _ _ _ _ _ _ _ refl))
