-- The sets by id (7.4.1.2.1). To be read beside the standard.
use Rattle.std.specs.Prelude.{◌≡◌, ◌≢◌, ℕ, ◌≤◌, true, List, [], ◌∷◌, Option, Some, None, replicate, slice_set, slice_get}
use Rattle.std.specs.Option.{option_map, option_and_then}
use Rattle.h264_sps.specs.declared.sps.Sps.{Sps}
use Rattle.h264_sps.specs.Usable.{is_accepted}
use Rattle.h264_pps.specs.declared.Pps.{Pps}
use Rattle.h264_sets.specs.declared.SetPair.{SetPair}

-- Two finite maps, as lists: at place id the set of that id, if there was one. And the sets that were activated last, with the content that they had then.
pub record Maps : Type 0 where
  pub sps : List (Option Sps)
  pub pps : List (Option Pps)
  pub active : Option SetPair

abbrev pub no_sets : Maps
no_sets = record { sps = replicate 32 None; pps = replicate 256 None; active = None }

-- the set of an id
abbrev pub set_at : {T : Type 0} → List (Option T) → ℕ → Option T
set_at sets id = option_and_then (λ s. s) (slice_get sets id)

abbrev pub sps_of : Maps → ℕ → Option Sps
sps_of m id = set_at m.sps id

abbrev pub pps_of : Maps → ℕ → Option Pps
pps_of m id = set_at m.pps id

-- this holds of each set that stands in the place of an id
abbrev pub EachSet : {T : Type 0} → (T → Type 0) → List (Option T) → Type 0
EachSet P [] = Unit {0}
EachSet P (None ∷ sets) = EachSet P sets
EachSet P (Some set ∷ sets) = P set × EachSet P sets

-- each sequence parameter set is one that some unit may give
abbrev pub AreAccepted : List (Option Sps) → Type 0
AreAccepted sets = EachSet (λ (s : Sps). is_accepted s ≡ true) sets

-- each picture parameter set names a sequence parameter set by an id that there is
abbrev pub NameIds : List (Option Pps) → Type 0
NameIds sets = EachSet (λ (p : Pps). p.seq_parameter_set_id ≤ 31) sets

-- a set in the place of the one that had its id
abbrev pub with_sps : Maps → Sps → Maps
with_sps m sps = record m { sps = slice_set m.sps sps.seq_parameter_set_id (Some sps) }

abbrev pub with_pps : Maps → Pps → Maps
with_pps m pps = record m { pps = slice_set m.pps pps.pic_parameter_set_id (Some pps) }

-- what putting a set changes: its id names it, and every other id names what it did
pub record IsPutSps (old new : Maps) (sps : Sps) : Type 0 where
  pub put : sps_of new sps.seq_parameter_set_id ≡ Some sps
  pub others : (id : ℕ) → id ≢ sps.seq_parameter_set_id → sps_of new id ≡ sps_of old id
  pub pps_kept : (id : ℕ) → pps_of new id ≡ pps_of old id

pub record IsPutPps (old new : Maps) (pps : Pps) : Type 0 where
  pub put : pps_of new pps.pic_parameter_set_id ≡ Some pps
  pub others : (id : ℕ) → id ≢ pps.pic_parameter_set_id → pps_of new id ≡ pps_of old id
  pub sps_kept : (id : ℕ) → sps_of new id ≡ sps_of old id

-- a picture parameter set with the sequence parameter set that it names, if both are there
abbrev pub with_sps_of : Maps → Pps → Option SetPair
with_sps_of m pps = option_map (λ sps. record { pps = pps; sps = sps }) (sps_of m pps.seq_parameter_set_id)

abbrev pub pair_of : Maps → ℕ → Option SetPair
pair_of m id = option_and_then (with_sps_of m) (pps_of m id)

-- this pair in the place of the active one
abbrev pub with_active : Maps → SetPair → Maps
with_active m pair = record m { active = Some pair }

-- the pair with another picture parameter set
abbrev pub naming : Pps → SetPair → SetPair
naming pps pair = record pair { pps = pps }

-- the active sequence parameter set has this content, its id among it
abbrev pub IsActive : Maps → Sps → Type 0
IsActive m sps = option_map (λ p. SetPair.sps p) m.active ≡ Some sps
