-- The range of the vectors of a macroblock as one test over its sixteen blocks (A.3.1). A working form.
use Rattle.std.specs.Prelude.{ℕ, Bool, true, List, Option, Some, None, get_or}
use Rattle.std.specs.List.{list_all, range_with_len}
use Rattle.h264_near.specs.declared.motion.Motion.{Motion}
use Rattle.h264_vectors.specs.Derived.{vector_fits}

abbrev pub motion_fits : ℕ → Option Motion → Bool
motion_fits limit None = true
motion_fits limit (Some m) = vector_fits limit m.vector

abbrev pub all_fit : ℕ → List (Option Motion) → Bool
all_fit limit motions = list_all (λ n. motion_fits limit (get_or motions n None)) (range_with_len 0 16)
