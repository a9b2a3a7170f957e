-- The units so far, and the parameter sets that they leave (7.4.1.2.1). To be read beside the standard.
use Rattle.std.specs.Prelude.{Option, Some, None, List, [], ◌∷◌}
use Rattle.h264_units.specs.Stream.{NalUnit}
use Rattle.h264_sets.specs.Sets.{Maps, no_sets, with_sps, with_pps, pair_of, with_active}
use Rattle.h264_sets.specs.declared.SetPair.{SetPair}
use Rattle.h264_verify.specs.Content.{Content}
use Rattle.h264_verify.specs.Content as contents

-- a unit and what stands in it
pub record ReadUnit : Type 0 where
  pub unit : NalUnit
  pub content : Content

-- the units so far, the last one first
abbrev pub History : Type 0
History = List ReadUnit

-- the pair that a slice names becomes the active one
abbrev pub with_pair : Maps → Option SetPair → Maps
with_pair maps None = maps
with_pair maps (Some pair) = with_active maps pair

-- a parameter set takes the place of the one that had its id
abbrev pub maps_with : Maps → Content → Maps
maps_with maps (contents.OfSps set) = with_sps maps set
maps_with maps (contents.OfPps set) = with_pps maps set
maps_with maps (contents.OfSlice h macroblocks) = with_pair maps (pair_of maps h.pic_parameter_set_id.value)
maps_with maps contents.Passed = maps

-- the parameter sets by id: each id names the last set that had it; and the pair that the last slice named
abbrev pub maps_of : History → Maps
maps_of [] = no_sets
maps_of (r ∷ before) = maps_with (maps_of before) r.content
