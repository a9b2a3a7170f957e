use Rattle.std.proofs.Common.{◌≡◌, Some, ap, sym, ◌∙◌}
use Rattle.h264_sets.specs.Sets.{Maps}
use Rattle.h264_sps.proofs.Content.{decides-sps}
use Rattle.h264_sets.proofs.Sets.is_active.Goals as goal
use Rattle.h264_base.proofs.Plain.{some-same}

pub returns-in-Some : goal.returns-in-Some
returns-in-Some c =
    let d = decides-sps c.in-Some.pair.sps c.args.sps.now in
    let active = ap (λ (m : Maps). m.active) (sym c.self.view_is) ∙ c.in-Some.is in
    (λ t. rw active (ap Some (d.0 (sym c.eq.ensures ∙ t))), λ h. c.eq.ensures ∙ d.1 (some-same _ _ (rw active at h)))
