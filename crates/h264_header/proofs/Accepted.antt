-- A slice finds the sets that some unit gives.
use Rattle.std.proofs.Common.{◌≡◌, ℕ, ◌≤◌, true, Some, refl}
use Rattle.std.proofs.lemmas.Bool.{le-leb}
use Rattle.h264_base.specs.declared.mode.Target.{Target}
use Rattle.h264_sps.specs.declared.sps.Sps.{Sps}
use Rattle.h264_sps.specs.Sps.{sps}
use Rattle.h264_sps.specs.Usable.{is_accepted}
use Rattle.h264_base.proofs.Gives.{Gives, gives-following, gives-derived}
use Rattle.h264_bits.proofs.Given.{gives-to}
use Rattle.h264_sps.proofs.Accepted.{gives-accepted}
use Rattle.h264_pps.specs.declared.Pps.{Pps}
use Rattle.h264_pps.specs.Pps.{pps}
use Rattle.h264_sets.specs.Sets.{Maps, sps_of, pps_of}
use Rattle.h264_header.specs.Layout.{sets_of}
use Rattle.h264_header.specs.Accepted.{IsAcceptedSps, IsAcceptedPps}

abbrev HasId : Pps → Type 0
HasId p = p.seq_parameter_set_id ≤ 31

pps-gives : (target : Target) → Gives (pps target) HasId
unfolding pps Gives
pps-gives target = gives-following _ _ _
    (λ id. gives-to _ _ _ _ (λ sps low. gives-following _ _ _
    (λ _. gives-following _ _ _ (λ _. gives-following _ _ _
    (λ _. gives-following _ _ _ (λ _. gives-following _ _ _
    (λ _. gives-following _ _ _ (λ _. gives-following _ _ _
    (λ _. gives-following _ _ _ (λ _. gives-following _ _ _
    (λ _. gives-following _ _ _ (λ _. gives-following _ _ _
    (λ _. gives-following _ _ _ (λ _. gives-following _ _ _ (λ _. gives-following _ _ _ (λ _. low))))))))))))))))

-- a set that some unit gives is never left out
pub named-accepted : (target : Target) (maps : Maps) (id : ℕ) (p : Pps) (s : Sps) → IsAcceptedPps target p → IsAcceptedSps target s →
    pps_of maps id ≡ Some p → sps_of maps p.seq_parameter_set_id ≡ Some s → sets_of maps id ≡ Some (p, s)
named-accepted target maps id p s a b e f =
    let low = gives-derived (pps target) HasId a.body a.from a.elements a.to p (pps-gives target) a.derives in
    let given = gives-derived (sps target) (λ s. is_accepted s ≡ true) b.body b.from b.elements b.to s (gives-accepted target) b.derives in
    rw (e, le-leb _ _ low, f, given) refl
