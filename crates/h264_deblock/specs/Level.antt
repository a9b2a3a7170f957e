-- What a call takes of an edge: bS by quarters of its lines as numbers (8.7.2.1), and what it has in common with other edges (8.7.2.2). To be read beside
-- the standard.
use Rattle.std.specs.Prelude.{◌≡◌, ◌≢◌, ℕ, ◌<◌, ◌==◌, List, [], ◌∷◌, get_or, slice_index, nat_le, if◌then◌else◌}
use Rattle.h264_tables.specs.Thresholds.{alpha_rows, beta_rows}
use Rattle.h264_deblock.specs.Line.{Filter, Off, Normal, Strong}
use Rattle.h264_deblock.specs.Edge.{index_of, filter_of}
use Rattle.h264_deblock.specs.CodedEdges.{named}
use Rattle.h264_deblock.specs.declared.edge_parameters.BoundaryStrength.{BoundaryStrength}
use Rattle.h264_deblock.specs.declared.edge_parameters.EdgeParameters.{EdgeParameters}
use Rattle.h264_deblock.specs.declared.limits.Level.{Level}
use Rattle.h264_deblock.specs.declared.slice_filter.SliceFilter.{SliceFilter}

-- ---- bS

-- by name
abbrev pub names : List ℕ → List BoundaryStrength
names word = named (get_or word 0 0) ∷ named (get_or word 1 0) ∷ named (get_or word 2 0) ∷ named (get_or word 3 0) ∷ []

abbrev pub fours : List ℕ
fours = 4 ∷ 4 ∷ 4 ∷ 4 ∷ []

-- each bS is 4, or none is
pub record IsWord (word : List ℕ) : Type 0 where
  pub all : get_or word 0 0 ≡ 4 → word ≡ fours
  pub below : get_or word 0 0 ≢ 4 → (k : ℕ) → k < 4 → get_or word k 0 < 4

-- ---- filters as numbers

-- tC0, or a greater number where bS is 0
unfoldable pub filter_by : ℕ → Filter
filter_by t = if nat_le t 25 then Normal t else Off

-- and with a number for bS 4
unfoldable pub any_filter : ℕ → Filter
any_filter t = if t == 254 then Strong else filter_by t

-- none of these numbers is that of bS 4
abbrev pub AreBelow : List ℕ → Type 0
AreBelow numbers = (s : ℕ) → s < 4 → any_filter (slice_index numbers s) ≡ filter_by (slice_index numbers s)

-- ---- what edges have in common

-- an edge between two quantisation parameters, in a slice with this filter
abbrev pub parameters : ℕ → ℕ → SliceFilter → List BoundaryStrength → EdgeParameters
parameters qp_p qp_q filter strengths =
    record { qp_p = qp_p; qp_q = qp_q; filter_offset_a = filter.filter_offset_a; filter_offset_b = filter.filter_offset_b; strengths = strengths }

-- the thresholds of an edge, and the numbers of its filters of bS below 4
pub record IsLevel (l : Level) (e : EdgeParameters) : Type 0 where
  pub alpha : l.alpha ≡ slice_index alpha_rows (index_of e.qp_p e.qp_q e.filter_offset_a)
  pub beta : l.beta ≡ slice_index beta_rows (index_of e.qp_p e.qp_q e.filter_offset_b)
  pub numbers : (s : ℕ) → s < 4 → any_filter (slice_index l.numbers s) ≡ filter_of (index_of e.qp_p e.qp_q e.filter_offset_a) (named s)

-- the level of the edges between these two quantisation parameters, in a slice with this filter
pub record IsLevelOf (l : Level) (qp_p qp_q : ℕ) (filter : SliceFilter) : Type 0 where
  pub here : (strengths : List BoundaryStrength) → IsLevel l (parameters qp_p qp_q filter strengths)
  pub below : AreBelow l.numbers
