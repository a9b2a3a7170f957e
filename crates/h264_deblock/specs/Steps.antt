-- What the code has of the edges of a macroblock before it knows the plane. A working form.
use Rattle.std.specs.Prelude.{◌≡◌, ℕ, ◌-◌, ◌<◌, ◌==◌, ◌&&◌, Bool, true, false, if◌then◌else◌, List, [], ◌∷◌, get_or, nat_lt, Option, Some, None, ℤ}
use Rattle.std.specs.Ordering.{int_eq}
use Rattle.std.specs.List.{list_all}
use Rattle.std.specs.Option.{option_map}
use Rattle.h264_tables.specs.ChromaQp.{chroma_qp_of}
use Rattle.h264_tables.specs.declared.thresholds.Strength.TheVariants.{One, Two}
use Rattle.h264_plane.specs.Blocks.{number_of}
use Rattle.h264_near.specs.Coded.{CodedMacroblock, are_blank}
use Rattle.h264_near.specs.Keeps.{Lower, Right, filter_qp_of}
use Rattle.h264_near.specs.Partition.{MovesByPartition}
use Rattle.h264_near.specs.declared.partition.Partition.{Partition}
use Rattle.h264_near.specs.declared.partition.Partition.TheVariants.{P16x16}
use Rattle.h264_near.specs.declared.context.Contexts.{Contexts}
use Rattle.h264_near.specs.declared.context.Edge.{Edge}
use Rattle.h264_near.specs.declared.motion.Motion.{Motion}
use Rattle.h264_deblock.specs.declared.edge_parameters.EdgeParameters.{EdgeParameters}
use Rattle.h264_deblock.specs.declared.edge_parameters.BoundaryStrength.{BoundaryStrength}
use Rattle.h264_deblock.specs.declared.edge_parameters.BoundaryStrength.TheVariants.{Zero, BelowFour}
use Rattle.h264_deblock.specs.declared.slice_filter.SliceFilter.{SliceFilter}
use Rattle.h264_deblock.specs.CodedEdges.{filters, strengths}
use Rattle.h264_deblock.specs.Level.{parameters}
use Rattle.h264_deblock.specs.Strength.{Side, moves_apart}
use Rattle.h264_deblock.specs.Limits.{AreAll}

-- an edge lies along the right column, or the lower row, of the macroblock beside
abbrev pub LiesAlong : Bool → Edge → CodedMacroblock → Type 0
LiesAlong true e m = Right e m
LiesAlong false e m = Lower e m

-- one of its blocks
abbrev pub block_beside : Edge → ℕ → Side
block_beside e k = record { intra = e.intra; coded = nat_lt 0 (get_or e.totals k 0); motion = get_or e.motions k None }

-- the number of the k-th block of a line of blocks
abbrev pub number_at : Bool → ℕ → ℕ → ℕ
number_at true line k = number_of line k
number_at false line k = number_of k line

-- bS of two blocks of which neither is intra, by whether one of them has coefficients
abbrev pub inter_strength : Bool → Option Motion → Option Motion → BoundaryStrength
inter_strength coded p q = if coded then BelowFour Two else if moves_apart p q then BelowFour One else Zero

-- the strengths of the inner edges of a direction
unfoldable pub inner_lines : Bool → CodedMacroblock → List (List BoundaryStrength)
inner_lines vertical q = strengths vertical 1 q q ∷ strengths vertical 2 q q ∷ strengths vertical 3 q q ∷ []

-- those of edges along which nothing differs
abbrev pub still_line : List BoundaryStrength
still_line = Zero ∷ Zero ∷ Zero ∷ Zero ∷ []

-- no inner edge has a bS but 0
pub record HasStillLines (q : CodedMacroblock) : Type 0 where
  pub vertical : still_line ∷ still_line ∷ still_line ∷ [] ≡ inner_lines true q
  pub horizontal : still_line ∷ still_line ∷ still_line ∷ [] ≡ inner_lines false q

-- one picture and one vector
abbrev pub alike : Option Motion → Option Motion → Bool
alike (Some a) (Some b) = a.picture == b.picture && int_eq a.vector.x b.vector.x && int_eq a.vector.y b.vector.y
alike (Some a) None = false
alike None (Some b) = false
alike None None = true

abbrev pub are_like : Option Motion → List (Option Motion) → Bool
are_like first motions = list_all (λ m. alike m first) motions

abbrev pub are_alike : List (Option Motion) → Bool
are_alike motions = are_like (get_or motions 0 None) motions

-- a macroblock moves by its partition, if it is known
abbrev pub MovesBy : Option Partition → List (Option Motion) → Type 0
MovesBy None motions = Unit {0}
MovesBy (Some partition) motions = MovesByPartition partition motions

-- blocks on both sides of an inner edge, before this line of blocks, have one reference and one vector
pub record AreJoined (vertical : Bool) (line : ℕ) (motions : List (Option Motion)) : Type 0 where
  pub each : (k : ℕ) → k < 4 → get_or motions (number_at vertical (line - 1) k) None ≡ get_or motions (number_at vertical line k) None

-- nothing tells the blocks of a macroblock apart
pub record IsEven (c : Contexts) : Type 0 where
  pub blank : are_blank c.totals ≡ true
  pub one : MovesByPartition P16x16 c.motions

-- nothing tells the blocks along an edge apart
abbrev pub is_steady : Edge → Bool
is_steady e = are_blank e.totals && are_alike e.motions

-- the quantisation parameter of luma or of chroma
abbrev pub side_qp : Bool → ℕ → ℤ → ℕ
side_qp chroma qp offset = if chroma then chroma_qp_of qp offset else qp

-- the edge to a macroblock beside: the quantisation parameter of that one, and the strengths
pub record NamedBorder : Type 0 where
  pub qp : ℕ
  pub strengths : List BoundaryStrength

-- the edge to the macroblock p, whatever the plane
unfoldable pub border_of : SliceFilter → Bool → Option CodedMacroblock → CodedMacroblock → Option NamedBorder
border_of filter vertical None q = None
border_of filter vertical (Some p) q =
    if filters filter.deblocking (p.slice == q.slice) then Some (record { qp = filter_qp_of p.prediction p.qp; strengths = strengths vertical 0 p q })
    else None

-- it is not filtered, or has no bS but 0
abbrev pub IsStill : Option NamedBorder → Type 0
IsStill None = Unit {0}
IsStill (Some b) = AreAll Zero b.strengths

-- and in a plane
abbrev pub border_edge : Bool → ℕ → SliceFilter → Option NamedBorder → Option EdgeParameters
border_edge chroma qp filter b = option_map (λ (e : NamedBorder). parameters (side_qp chroma e.qp filter.chroma_qp_index_offset) qp filter e.strengths) b

abbrev pub inner_edge : ℕ → SliceFilter → List BoundaryStrength → Option EdgeParameters
inner_edge qp filter strengths = if filters filter.deblocking true then Some (parameters qp qp filter strengths) else None
