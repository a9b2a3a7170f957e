-- The strengths bS of edges as numbers. A working form.
use Rattle.std.specs.Prelude.{◌≡◌, ℕ, ◌<◌, List, [], ◌∷◌, get_or, Option, Some, None}
use Rattle.h264_deblock.specs.Level.{names, IsWord}
use Rattle.h264_deblock.specs.Steps.{NamedBorder}
use Rattle.h264_deblock.specs.declared.plane_level.Border.{Border}
use Rattle.h264_deblock.specs.declared.edge_parameters.BoundaryStrength.{BoundaryStrength}

-- those of the inner edges of a direction, by name
abbrev pub all_names : List (List ℕ) → List (List BoundaryStrength)
all_names words = names (get_or words 0 []) ∷ names (get_or words 1 []) ∷ names (get_or words 2 []) ∷ []

abbrev pub zeros : List ℕ
zeros = 0 ∷ 0 ∷ 0 ∷ 0 ∷ []

abbrev pub AreWords : List (List ℕ) → Type 0
AreWords words = (line : ℕ) → line < 3 → IsWord (get_or words line [])

-- the edge to the macroblock beside, by name
abbrev pub named_border : Option Border → Option NamedBorder
named_border None = None
named_border (Some b) = Some (record { qp = b.qp; strengths = names b.strengths })

-- where there is an edge to the macroblock beside, its strengths are a word
abbrev pub HasWord : Option Border → Type 0
HasWord border = (b : Border) → border ≡ Some b → IsWord b.strengths
