-- The range of counts (8.2.1). To be read beside the standard.
use Rattle.std.specs.Prelude.{◌-◌, ◌^◌, ◌&&◌, Bool, Option, Some, None, ℤ, pos, neg_ℤ, int_le, if◌then◌else◌}
use Rattle.h264_poc.specs.declared.picture.Count.{Count}
use Rattle.h264_poc.specs.declared.within.FieldCounts.{FieldCounts}

abbrev pub is_in_range : ℤ → Bool
is_in_range z = int_le (neg_ℤ (pos (2 ^ 31))) z && int_le z (pos (2 ^ 31 - 1))

abbrev pub count_within : FieldCounts → Option Count
count_within counts = if is_in_range counts.top && is_in_range counts.bottom then Some (record { top = counts.top; bottom = counts.bottom }) else None
