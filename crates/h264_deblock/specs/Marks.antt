-- The strengths of the edges of a macroblock as the code has them. A working form.
use Rattle.std.specs.Prelude.{◌≡◌, ℕ, ◌<◌, true, false, IsTrue, List, [], ◌∷◌, get_or, Option, is_some}
use Rattle.h264_deblock.specs.Filtering.{PlaneEdges}
use Rattle.h264_deblock.specs.Steps.{border_edge, inner_edge}
use Rattle.h264_deblock.specs.Words.{named_border, zeros, AreWords, HasWord}
use Rattle.h264_deblock.specs.declared.by_level.Marks.{Marks}
use Rattle.h264_deblock.specs.declared.plane_level.Border.{Border}
use Rattle.h264_deblock.specs.declared.strengths.InnerStrengths.{InnerStrengths}
use Rattle.h264_deblock.specs.declared.edge_parameters.EdgeParameters.{EdgeParameters}
use Rattle.h264_deblock.specs.declared.slice_filter.SliceFilter.{SliceFilter}
use Rattle.h264_deblock.specs.Level.{names}

-- the edges of a direction, of which chroma has every other one
abbrev pub luma_list : ℕ → SliceFilter → Option Border → List (List ℕ) → List (Option EdgeParameters)
luma_list qp filter border words =
    border_edge false qp filter (named_border border) ∷ inner_edge qp filter (names (get_or words 0 [])) ∷ inner_edge qp filter (names (get_or words 1 [])) ∷
    inner_edge qp filter (names (get_or words 2 [])) ∷ []

abbrev pub chroma_list : ℕ → SliceFilter → Option Border → List (List ℕ) → List (Option EdgeParameters)
chroma_list qp filter border words = border_edge true qp filter (named_border border) ∷ inner_edge qp filter (names (get_or words 1 [])) ∷ []

-- and those of a plane
abbrev pub luma_by : ℕ → SliceFilter → Marks → PlaneEdges
luma_by qp filter m = record { vertical = luma_list qp filter m.left m.inner.vertical; horizontal = luma_list qp filter m.above m.inner.horizontal }

abbrev pub chroma_by : ℕ → SliceFilter → Marks → PlaneEdges
chroma_by qp filter m = record { vertical = chroma_list qp filter m.left m.inner.vertical; horizontal = chroma_list qp filter m.above m.inner.horizontal }

-- all strengths are words, and no edge at the picture's border is filtered
pub record AreMarks (m : Marks) (column row : ℕ) : Type 0 where
  pub left : HasWord m.left
  pub above : HasWord m.above
  pub vertical : AreWords m.inner.vertical
  pub horizontal : AreWords m.inner.horizontal
  pub columns : IsTrue (is_some m.left) → 0 < column
  pub rows : IsTrue (is_some m.above) → 0 < row

-- no inner edge has a bS but 0
pub record AreStill (inner : InnerStrengths) : Type 0 where
  pub vertical : inner.vertical ≡ zeros ∷ zeros ∷ zeros ∷ []
  pub horizontal : inner.horizontal ≡ zeros ∷ zeros ∷ zeros ∷ []
