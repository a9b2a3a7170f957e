-- The sets that a header names are a pair of the sets by id.
use Rattle.std.proofs.Common.{◌≡◌, ℕ, Bool, true, false, Option, Some, None, nat_le, if◌then◌else◌}
use Rattle.std.specs.Option.{option_map, option_and_then}
use Rattle.h264_pps.specs.declared.Pps.{Pps}
use Rattle.h264_sps.specs.declared.sps.Sps.{Sps}
use Rattle.h264_sets.specs.declared.SetPair.{SetPair}
use Rattle.h264_sets.specs.Sets.{Maps, sps_of, pps_of, with_sps_of, pair_of}
use Rattle.h264_sps.specs.Usable.{is_accepted}
use Rattle.h264_header.specs.Layout.{if_accepted, sps_named, sets_of}

abbrev as_pair : Pps × Sps → SetPair
as_pair p = record { pps = p.0; sps = p.1 }

if-lengths : (b : Bool) (pps : Pps) (sps : Sps) (p : Pps × Sps) → (if b then Some (pps, sps) else None) ≡ Some p → Some (as_pair (pps, sps)) ≡ Some (as_pair p)
if-lengths true pps sps p e = cc
if-lengths false pps sps p e = absurd (cc)

if-there : (b : Bool) (pps : Pps) (o : Option Sps) (p : Pps × Sps) → (if b then option_and_then (if_accepted pps) o else None) ≡ Some p →
    option_map (λ sps. as_pair (pps, sps)) o ≡ Some (as_pair p)
if-there true pps None p e = absurd (cc)
if-there true pps (Some sps) p e = if-lengths (is_accepted sps) pps sps p e
if-there false pps o p e = absurd (cc)

if-named : (m : Maps) (o : Option Pps) (p : Pps × Sps) → option_and_then (sps_named m) o ≡ Some p → option_and_then (with_sps_of m) o ≡ Some (as_pair p)
if-named m None p e = absurd (cc)
if-named m (Some pps) p e = if-there (nat_le pps.seq_parameter_set_id 31) pps (sps_of m pps.seq_parameter_set_id) p e

-- a header is read only where its pair is there
pub named-pair : (m : Maps) (id : ℕ) (p : Pps × Sps) → sets_of m id ≡ Some p → pair_of m id ≡ Some (record { pps = p.0; sps = p.1 })
named-pair m id p e = if-named m (pps_of m id) p e
