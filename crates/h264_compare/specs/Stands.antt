-- Where a comparison stands. A working form.
use Rattle.std.specs.Prelude.{ℕ, List, Option}
use Rattle.h264_compare.specs.declared.comparing.Comparison.{Comparison}
use Rattle.h264_compare.specs.Given.{Standing}

-- with what its reader has left
abbrev pub stands : {R : Type 0} → (R → Option (List ℕ)) → Comparison R → Standing
stands remaining c = record { left = remaining c.reader; numbers = c.numbers }
