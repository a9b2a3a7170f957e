-- What is known of an edge before its lines are filtered: of its four bS, its filters and its thresholds. A working form.
use Rattle.std.specs.Prelude.{◌≡◌, ℕ, ◌/◌, ◌%◌, ◌<◌, Bool, List, get_or, if◌then◌else◌, ◌⊎◌}
use Rattle.h264_deblock.specs.Edge.{limits}
use Rattle.h264_deblock.specs.Level.{any_filter, filter_by}
use Rattle.h264_deblock.specs.Line.{Strong}
use Rattle.h264_deblock.specs.declared.limits.Mix.{Mix}
use Rattle.h264_deblock.specs.declared.limits.Mix.TheVariants.{NoFour, AllFour}
use Rattle.h264_deblock.specs.declared.edge_parameters.BoundaryStrength.{BoundaryStrength}
use Rattle.h264_deblock.specs.declared.edge_parameters.EdgeParameters.{EdgeParameters}
use Rattle.h264_deblock.specs.declared.edge_parameters.BoundaryStrength.TheVariants.{Zero}

-- each bS is this one
abbrev pub AreAll : BoundaryStrength → List BoundaryStrength → Type 0
AreAll strength strengths = (n : ℕ) → n < 4 → get_or strengths n Zero ≡ strength

-- the quarter of an edge that line n lies in: of 16 lines of luma, or of twice 8 lines of chroma
abbrev pub quarter : Bool → ℕ → ℕ
quarter chroma n = if chroma then n % 8 / 2 else n / 4

-- the number of a filter is that of bS below 4, or of bS 4
abbrev pub Suits : Mix → ℕ → Type 0
Suits NoFour t = any_filter t ≡ filter_by t
Suits AllFour t = any_filter t ≡ Strong

-- alpha or beta is 0, by which no line is filtered (8.7.2.2)
abbrev pub IsIdle : EdgeParameters → Type 0
IsIdle e = (n : ℕ) → ((limits e n).alpha ≡ 0) ⊎ ((limits e n).beta ≡ 0)
