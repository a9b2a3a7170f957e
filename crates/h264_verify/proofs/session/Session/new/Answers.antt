use Rattle.std.proofs.Common.{◌≡◌, refl, ap, arith, []}
use Rattle.h264_verify.specs.declared.state.Terms.{Terms}
use Rattle.h264_verify.specs.Telling.{Family, IsFamilyFor}
use Rattle.h264_verify.specs.Progress.{going}
use Rattle.h264_verify.specs.Feeding.{IsReady}
use Rattle.h264_verify.specs.Units.{terms_of}
use Rattle.h264_units.specs.Splitting.{Splitting, at_start}
use Rattle.h264_verify.specs.declared.state.State.{State}
use Rattle.h264_verify.specs.KeepingUnits.{Keeps}
use Rattle.h264_verify.proofs.samples.FamiliesByPurpose.{some-family, some-family-for}
use Rattle.h264_verify.proofs.session.SessionSteps.{fed-first}
use Rattle.h264_verify.proofs.session.Session.new.Goals as goal

pub returns-clause-fresh : goal.returns-clause-fresh
returns-clause-fresh c =
    record { terms_is = c.of-terms.ensures; split = c.new-2.ensures; keeps = λ frames h. c.in_ok-state.ensures.keeps frames h; stop = refl }

pub returns-clause-fed : goal.returns-clause-fed
returns-clause-fed c = λ frames h. fed-first (terms_of c.args.mode c.args.target) _ frames
    (record { terms_is = c.of-terms.ensures; split = c.new-2.ensures; keeps = λ f x. c.in_ok-state.ensures.keeps f x; stop = refl }) h

-- before the first byte
ready-first : (terms : Terms) (split : Splitting) (state : State) → split ≡ at_start →
    ((frames : Family) → IsFamilyFor terms.purpose frames → Keeps terms.depth frames [] state) → IsReady terms split state
ready-first terms split state e k =
    let frames = some-family terms.purpose in
    let h = some-family-for terms.purpose in
    let kept = k frames h in (
      (ap (λ (s : Splitting). s.stop) e, ap (λ (s : Splitting). s.waiting) e, ap (λ (s : Splitting). s.ended) e),
      (let n = kept.units in omega (arith, n)),
      (let n = kept.slices.kept.pictures_are in omega (arith, n)),
      record {
        bytes = [];
        frames = frames;
        told = [];
        fed = fed-first terms (going terms split state) frames (record { terms_is = refl; split = e; keeps = k; stop = refl }) h;
      },
    )

pub invariant_of-result : goal.invariant_of-result
invariant_of-result c = ready-first c.of-terms.result _ _ c.new-2.ensures (λ frames h. c.in_ok-state.ensures.keeps frames h)
