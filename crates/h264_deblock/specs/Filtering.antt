-- To be read beside the standard. The edges of a macroblock of n columns and rows in one plane, one after another (8.7): the vertical ones from left to
-- right and then the horizontal ones from top to bottom, each 4 samples from the one before. A luma macroblock has 16 columns and four edges of each
-- direction, one of a chroma plane 8 columns and two.
use Rattle.std.specs.Prelude.{◌≡◌, ℕ, zero, suc, ◌+◌, ◌*◌, ◌/◌, ◌%◌, ◌<◌, Bool, true, false, IsTrue, List, get_or, Option, Some, None, is_some}
use Rattle.h264_plane.specs.Samples.{Samples, at, IsSized}
use Rattle.h264_plane.specs.Frames.{plane_of}
use Rattle.h264_plane.specs.Places.{side, Before, Grid}
use Rattle.h264_plane.specs.declared.frame.Component.{Component}
use Rattle.h264_plane.specs.declared.frame.Frame.{Frame}
use Rattle.h264_deblock.specs.Edge.{edge_after, EdgePlace, edge_at}
use Rattle.h264_deblock.specs.declared.edge_parameters.EdgeParameters.{EdgeParameters}

-- ---- the edges of a macroblock

-- those of a plane; an edge that is not filtered is None
pub record PlaneEdges : Type 0 where
  pub vertical : List (Option EdgeParameters)
  pub horizontal : List (Option EdgeParameters)

-- samples after an edge that may be filtered
unfoldable pub edge_or : Option EdgeParameters → Bool → Bool → EdgePlace → Grid → Grid
edge_or None vertical chroma place s x y = s x y
edge_or (Some e) vertical chroma place s x y = edge_after vertical chroma e place s x y

-- samples after the first k edges of a direction, of which the first is at this place
unfoldable pub edges_after : ℕ → Bool → Bool → List (Option EdgeParameters) → EdgePlace → Grid → Grid
edges_after zero vertical chroma es place s x y = s x y
edges_after (suc k) vertical chroma es place s x y =
    edge_or (get_or es k None) vertical chroma (edge_at place.along (place.across + 4 * k)) (edges_after k vertical chroma es place s) x y

-- and after all of the macroblock at column c and row r of macroblocks
unfoldable pub edges_done : ℕ → Bool → PlaneEdges → ℕ → ℕ → Grid → Grid
edges_done n chroma e c r s =
    edges_after (n / 4) false chroma e.horizontal (edge_at (n * c) (n * r)) (edges_after (n / 4) true chroma e.vertical (edge_at (n * r) (n * c)) s)

-- ---- the picture

-- a plane of a picture before the filter: how many macroblocks there are to a row, of n columns and rows each, whether the plane is filtered as chroma,
-- the edges of each macroblock by its address, and the samples
pub record Unfiltered : Type 0 where
  pub across : ℕ
  pub n : ℕ
  pub chroma : Bool
  pub edges : ℕ → PlaneEdges
  pub samples : Grid

abbrev pub unfiltered : ℕ → ℕ → Bool → (ℕ → PlaneEdges) → Grid → Unfiltered
unfiltered across n chroma edges samples = record { across = across; n = n; chroma = chroma; edges = edges; samples = samples }

-- its samples after the filter of the first m macroblocks
unfoldable pub filtered_by : ℕ → Unfiltered → Grid
filtered_by zero u x y = u.samples x y
filtered_by (suc m) u x y = edges_done u.n u.chroma (u.edges m) (m % u.across) (m / u.across) (filtered_by m u) x y

-- no edge at the border of the picture is filtered
abbrev pub IsInside : Bool → ℕ → ℕ → List (Option EdgeParameters) → Type 0
IsInside true c r es = IsTrue (is_some (get_or es 0 None)) → 0 < c
IsInside false c r es = IsTrue (is_some (get_or es 0 None)) → 0 < r

pub record AreInside (c r : ℕ) (e : PlaneEdges) : Type 0 where
  pub vertical : IsInside true c r e.vertical
  pub horizontal : IsInside false c r e.horizontal

-- the edges of each macroblock of a picture of w by h, by its address, lie in it
pub record Fits (w h : ℕ) (edges : ℕ → PlaneEdges) : Type 0 where
  pub each : (c r : ℕ) → c < w → r < h → AreInside c r (edges (r * w + c))

-- a frame of so many macroblocks across and down
abbrev pub IsOf : ℕ → ℕ → Frame → Type 0
IsOf across down f = (p : Component) → IsSized (plane_of p f) (side p * across) (side p * down)

-- a plane holds what the filter makes of u with the macroblocks before the one at column c and row r, at the places of these
pub record IsReached (u : Unfiltered) (c r : ℕ) (p : Samples) : Type 0 where
  pub each : (x y : ℕ) → x < u.n * u.across → Before u.n c r x y → at p x y ≡ filtered_by (r * u.across + c) u x y
