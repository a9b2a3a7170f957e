-- What a reader has left of which the first bytes are given again. A working form.
use Rattle.std.specs.Prelude.{ℕ, ◌-◌, List, take, drop, Option}
use Rattle.std.specs.Io.KnownBytes.{prepend_known}
use Rattle.h264_compare.specs.declared.opening.Ahead.{Ahead}

-- the bytes that are given again, and then those of the reader inside
abbrev pub remaining_of : {R : Type 0} → (R → Option (List ℕ)) → Ahead R → Option (List ℕ)
remaining_of remaining a = prepend_known (take (a.end - a.next) (drop a.next a.first)) (remaining a.reader)
