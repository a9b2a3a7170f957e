use Rattle.std.proofs.Common.{List, [], ◌∷◌, ◌++◌, ◌≡◌, ◌+◌, length, sym, ◌∙◌, arith}
use Rattle.h264_dpb.specs.Turns.{last_turn}
use Rattle.h264_verify.specs.Buffering.{after_all}
use Rattle.h264_verify.proofs.kept.WhereMade.{some-made, none-made, quiet-written}
use Rattle.h264_verify.proofs.unit.frames_told.Goals as goal

both : {A : Type 0} (xs ys : List A) → length (xs ++ ys) ≡ length xs + length ys
both [] ys = omega arith
both (x ∷ xs) ys = let h = both xs ys in omega (arith, h)

pub returns-in-None : goal.returns-in-None
returns-in-None c = λ depth pictures k. quiet-written depth pictures (none-made _ depth _ c.in-None.is k)

pub returns-in-Some : goal.returns-in-Some
returns-in-Some c = λ depth pictures k.
    let made = some-made _ depth _ _ c.in-Some.is k in
    rw made.0 (c.frames.ensures _ _ made.1 ∙ sym (both (after_all pictures).written (last_turn (after_all pictures).buffer).written))
