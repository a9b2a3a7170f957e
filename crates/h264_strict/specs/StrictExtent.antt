-- How far a reader looks at the units of bytes. A working form: what each answer says of the bytes stands in StrictUnits.
use Rattle.std.specs.Prelude.{Bool, true, false, Result, Ok, Err}
use Rattle.h264_base.specs.declared.stop.Stop.{Stop}
use Rattle.h264_base.specs.declared.stop.Stop.TheVariants as stops
use Rattle.h264_strict.specs.declared.strict_extent.Extent.{Extent}
use Rattle.h264_strict.specs.declared.strict_extent.Extent.TheVariants as extents

abbrev pub is_whole : Extent → Bool
is_whole extents.Whole = true
is_whole extent = false

-- the bytes may go on
abbrev pub cut_off : Extent → Extent
cut_off extents.Whole = extents.NotToTheEnd
cut_off extent = extent

-- the bytes were not cut into units for this reason
abbrev pub extent_after : Stop → Extent
extent_after stops.Memory = extents.Memory
extent_after stop = extents.NoByteStream

-- a unit was looked at, or memory was wanting for it
abbrev pub extent_of : {X : Type 0} → Result X Stop → Extent
extent_of (Ok x) = extents.Whole
extent_of (Err stop) = extents.Memory
