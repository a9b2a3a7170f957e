use Rattle.std.proofs.Common.{rules, ◌≡◌, ◌≤◌, true, List, Option, None, refl, replicate}
use Rattle.h264_sps.specs.declared.sps.Sps.{Sps}
use Rattle.h264_sps.specs.Usable.{is_accepted}
use Rattle.h264_pps.specs.declared.Pps.{Pps}
use Rattle.h264_sets.specs.Sets.{Maps}
use Rattle.h264_sets.proofs.Each.{none-each}
use Rattle.h264_sets.proofs.Sets.new.Goals as goal

both : (s t : List (Option Sps)) (p q : List (Option Pps)) → s ≡ t → p ≡ q →
    (let m : Maps = record { sps = s; pps = p; active = None } in m) ≡ record { sps = t; pps = q; active = None }
both s t p q e f = cc

pub returns : goal.returns
returns c = both _ _ _ _ (c.in_ok-sps.ensures.items_if_clones_equal (λ y h. search rules)) (c.in_ok-pps.ensures.items_if_clones_equal (λ y h. search rules))

pub invariant_of-result : goal.invariant_of-result
invariant_of-result c =
    let s : c.in_ok-sps.sps.items ≡ replicate 32 None = c.in_ok-sps.ensures.items_if_clones_equal (λ y h. search rules) in
    let p : c.in_ok-pps.pps.items ≡ replicate 256 None = c.in_ok-pps.ensures.items_if_clones_equal (λ y h. search rules) in
    (rw s refl, rw p refl, rw s (none-each (λ (s : Sps). is_accepted s ≡ true) 32), rw p (none-each (λ (p : Pps). p.seq_parameter_set_id ≤ 31) 256))
