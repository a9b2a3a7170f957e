use Rattle.std.proofs.Common.{◌≡◌, Some, true, refl, ap, sym, subst, ◌∙◌}
use Rattle.h264_near.specs.declared.motion.Motion.{Motion}
use Rattle.h264_near.specs.declared.skipped.Skipped.{Skipped}
use Rattle.h264_near.specs.Skips.{IsSkipped}
use Rattle.h264_vectors.specs.Derived.{motion_of}
use Rattle.h264_vectors.specs.Vectors.{keeps_still, zero_vector}
use Rattle.h264_mbsyntax.specs.Slice.{skipped_of}
use Rattle.h264_mbsyntax.proofs.skip.is_repeated.Goals as goal

pub returns-clause-same : goal.returns-clause-same
returns-clause-same c e = ap (λ (s : Skipped). s.slice) (c.is_alike.ensures.same e) ∙ c.skip_macroblock-own.ensures.same

pub returns-clause-still : goal.returns-clause-still
unfolding motion_of
returns-clause-still c e =
    let m = ap (λ (s : Skipped). s.motion) (c.is_alike.ensures.same e) ∙ c.skip_macroblock-own.ensures.motion in
    subst (λ (m : Motion). keeps_still (Some (Some m)) ≡ true) (sym m) refl

pub returns-clause-holds : goal.returns-clause-holds
returns-clause-holds c e picture p =
    subst (λ (s : Skipped). IsSkipped s (skipped_of c.args.slice.now picture zero_vector)) (sym (c.is_alike.ensures.same e))
    (c.skip_macroblock-own.ensures.holds picture p)
